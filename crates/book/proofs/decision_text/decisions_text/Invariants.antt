use Rattle.std.proofs.Common.{◌≡◌, ◌∷◌, [], length}
use Rattle.std.specs.List.{flat_map}
use Rattle.std.specs.String.{string_bytes}
use Rattle.label.specs.Labels.{others}
use Rattle.book.specs.Decisions.{decision_of}
use Rattle.book.specs.Lines.{decision_line}
use Rattle.book.proofs.decision_text.decisions_text.Given as goal

-- The lines of the lieutenants so far, and their number.
abbrev pub invariant-loop-general : goal.invariant-loop-general
invariant-loop-general l = record { lines : string_bytes l.lines ≡ flat_map (λ general. decision_line general (decision_of l.table general)) (others l.general (l.table.commander ∷ [])); place : l.place ≡ length (others l.general (l.table.commander ∷ [])) }
