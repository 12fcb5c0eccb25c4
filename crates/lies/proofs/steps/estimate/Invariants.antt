use Rattle.std.proofs.Common.{◌≡◌}
use Rattle.std.specs.Prelude.{sum_by}
use Rattle.label.specs.Labels.{generals}
use Rattle.lies.specs.Estimate.{steps_under, stored}
use Rattle.lies.proofs.steps.estimate.Given as goal

abbrev pub invariant-loop-count : goal.invariant-loop-count
invariant-loop-count l = l.sum ≡ stored (sum_by (steps_under l.generals l.bound) (generals l.count))
