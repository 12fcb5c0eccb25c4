use Rattle.std.proofs.Common.{ap, ◌∙◌}
use Rattle.std.specs.Prelude.{sum_by}
use Rattle.label.specs.Labels.{generals}
use Rattle.lies.specs.Estimate.{steps_under, stored}
use Rattle.lies.proofs.Estimates.{one_count, sum_stored}
use Rattle.lies.proofs.steps.estimate.Goals as goal

pub loop-count-preserved : goal.loop-count-preserved
loop-count-preserved c =
    sum_stored c.loop-count.sum c.steps_under.result (sum_by (steps_under c.args.generals c.args.bound) (generals c.loop-count.count)) (steps_under c.args.generals c.args.bound c.loop-count.count) c.saturating_add-sum.result c.saturating_add-sum.ensures c.loop-count.invariant c.steps_under.ensures
    ∙ ap stored (one_count (steps_under c.args.generals c.args.bound) c.loop-count.count)
