use Rattle.std.proofs.Common.{◌-◌}
use Rattle.surveyor.proofs.Going.{IsUnderWay}
use Rattle.surveyor.proofs.played_survey.played.Given as goal

abbrev pub invariant-loop-next : goal.invariant-loop-next
invariant-loop-next g l = IsUnderWay l.asked l.family (g.O.Output.contents l.fn.out) (g.O.Output.contents l.out) (g.K.Keeper.files l.fn.keeper) (g.K.Keeper.files l.keeper) l.next l.counts

abbrev pub decreases-loop-next : goal.decreases-loop-next
decreases-loop-next g l = l.end - l.next
