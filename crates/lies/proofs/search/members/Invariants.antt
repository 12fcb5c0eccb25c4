use Rattle.std.proofs.Common.{◌≡◌}
use Rattle.std.specs.Prelude.{filter, ◌==◌}
use Rattle.std.specs.Int.{bit_at}
use Rattle.label.specs.Labels.{generals}
use Rattle.lies.proofs.search.members.Given as goal

abbrev pub invariant-loop-general : goal.invariant-loop-general
invariant-loop-general l = l.traitors.items ≡ filter (λ g. bit_at l.set g == 1) (generals l.general)
