use Rattle.std.proofs.Common.{◌≡◌, ◌∷◌, []}
use Rattle.std.specs.List.{flat_map}
use Rattle.std.specs.String.{string_bytes}
use Rattle.label.specs.Labels.{others}
use Rattle.signed.specs.Explained.{acceptance_lines}
use Rattle.signed.proofs.explanation.all_lieutenants.Given as goal

-- The lines about the lieutenants so far are written.
abbrev pub invariant-loop-general : goal.invariant-loop-general
invariant-loop-general l = string_bytes l.lines ≡ flat_map (acceptance_lines l.chronicle) (others l.general (l.chronicle.scenario.commander ∷ []))
