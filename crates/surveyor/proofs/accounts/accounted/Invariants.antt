use Rattle.std.proofs.Common.{◌-◌}
use Rattle.surveyor.proofs.AccountLemmas.{IsAccountedSoFar}
use Rattle.surveyor.proofs.accounts.accounted.Given as goal

abbrev pub invariant-loop-next : goal.invariant-loop-next
invariant-loop-next g l = IsAccountedSoFar l.asked l.family (g.O.Output.contents l.fn.out) (g.O.Output.contents l.out) (g.K.Keeper.files l.fn.keeper) (g.K.Keeper.files l.keeper) l.next

abbrev pub decreases-loop-next : goal.decreases-loop-next
decreases-loop-next g l = l.end - l.next
