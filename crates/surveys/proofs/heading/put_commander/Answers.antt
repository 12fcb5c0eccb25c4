use Rattle.std.proofs.Common.{◌≡◌, ◌++◌, codes}
use Rattle.std.specs.Prelude.{decimal}
use Rattle.std.specs.String.{string_bytes}
use Rattle.std.proofs.lemmas.Result.{on_ok_weaker}
use Rattle.surveys.proofs.CommanderMember.{commander_written}
use Rattle.surveys.proofs.heading.put_commander.Goals as goal

pub returns : goal.returns
returns c =
    let o = string_bytes c.args.out.now in
    let new = string_bytes c.put_numbered.new.out in
    on_ok_weaker c.put_numbered.result
    (λ (h : new ≡ (o ++ codes ",\"commander\":") ++ decimal c.from.result). commander_written c.args.commander c.from.result o new c.if-commander-eq0.false c.from.ensures h)
    c.put_numbered.ensures
