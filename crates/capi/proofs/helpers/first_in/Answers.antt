-- The calls at all units before the current one are allowed, and there are none after the end.
use Rattle.std.proofs.Common.{arith, below_more}
use Rattle.capi.proofs.Calls.{each_below}
use Rattle.capi.proofs.helpers.first_in.Goals as goal

pub loop-unit-preserved : goal.loop-unit-preserved
loop-unit-preserved c = below_more _ _ c.loop-unit.invariant c.in_default.ensures.none

pub returns-clause-none : goal.returns-clause-none
returns-clause-none c = each_below c.args.mask c.args.program.now c.units-unit-end.result c.units-unit-end.ensures.units (λ earlier less. c.loop-unit.invariant earlier (omega arith))
