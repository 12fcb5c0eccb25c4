use Rattle.std.proofs.Common.{◌≡◌, ◌++◌}
use Rattle.std.specs.List.{flat_map}
use Rattle.std.specs.String.{string_bytes}
use Rattle.label.specs.Labels.{others}
use Rattle.book.specs.Explained.{dotted}
use Rattle.book.specs.Table.{told}
use Rattle.table_scenario.specs.Programs.{message_text}
use Rattle.table_scenario.proofs.programs.push_label.Given as goal

abbrev pub invariant-loop-receiver : goal.invariant-loop-receiver
invariant-loop-receiver g l =
    string_bytes l.text ≡ string_bytes l.fn.text ++ flat_map (λ p. message_text l.rank (dotted l.label) p (told (g.H.Heard.seen l.table).messages l.label p)) (others l.receiver l.label)
