use Rattle.std.proofs.Common.{List, ℕ}
use Rattle.std.specs.String.{string_bytes}
use Rattle.streams.specs.Names.{shown}
use Rattle.cli_tasks.specs.Whys.{TellsWhy, TellsWhyOf, role_view}
use Rattle.cli_tasks.proofs.HintLemmas.{by_text, told_named}
use Rattle.cli_tasks.proofs.whys.told.Goals as goal

pub returns-in-Ok-told_by : goal.returns-in-Ok-told_by
returns-in-Ok-told_by c =
    rw (c.with_text.ensures)
    (by_text c.args.refusal c.args.file c.in-Ok-told_by.text
    (TellsWhyOf c.args.refusal (role_view c.args.of) c.args.file.now c.args.bytes.now)
    (told_named (shown c.args.file.now) (string_bytes c.in-Ok.name) (λ (n : List ℕ). TellsWhy c.args.refusal (role_view c.args.of) n c.args.bytes.now (string_bytes c.in-Ok-told_by.text))
    c.in-Ok.ensures (rw c.as_str.ensures.value at c.in-Ok-told_by.ensures)))
