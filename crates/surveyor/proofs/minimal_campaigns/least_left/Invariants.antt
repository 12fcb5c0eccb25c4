use Rattle.std.proofs.Common.{◌-◌}
use Rattle.surveyor.proofs.LeastLemmas.{IsLeastSoFar}
use Rattle.surveyor.proofs.minimal_campaigns.least_left.Given as goal

abbrev pub invariant-loop-next : goal.invariant-loop-next
invariant-loop-next g l = IsLeastSoFar l.asked l.family (g.K.Keeper.files l.fn.keeper) (g.K.Keeper.files l.keeper) l.next l.so_far

abbrev pub decreases-loop-next : goal.decreases-loop-next
decreases-loop-next g l = l.end - l.next
