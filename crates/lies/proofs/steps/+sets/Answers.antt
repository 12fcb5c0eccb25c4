use Rattle.std.proofs.Common.{◌-◌, ap, ◌∙◌}
use Rattle.lies.specs.Estimate.{sets, stored}
use Rattle.lies.proofs.Estimates.{more_sets, no_set, one_set, sum_stored}
use Rattle.lies.proofs.steps.+sets.Goals as goal

pub returns-then-count-eq0 : goal.returns-then-count-eq0
returns-then-count-eq0 t c = one_set c.args.generals c.args.count c.if-count-eq0.true

pub returns-then-generals-eq0 : goal.returns-then-generals-eq0
returns-then-generals-eq0 t c = no_set c.args.generals c.args.count c.if-count-eq0.false c.if-generals-eq0.true

pub returns : goal.returns
returns t c =
    sum_stored c.sets.result c.sets-2.result (sets (c.args.generals - 1) (c.args.count - 1)) (sets (c.args.generals - 1) c.args.count) c.saturating_add.result c.saturating_add.ensures c.sets.ensures c.sets-2.ensures
    ∙ ap stored (more_sets c.args.generals c.args.count c.if-count-eq0.false c.if-generals-eq0.false)
