use Rattle.std.proofs.Common.{◌-◌, ◌<◌, length}
use Rattle.surveys.specs.Shrinking.{IsBroken, IsPartOf, traitor_at}
use Rattle.surveys.proofs.Reducing.{LiesSoFar}
use Rattle.surveys.proofs.reductions.fewest_lies_of.Given as goal

abbrev pub invariant-loop-index : goal.invariant-loop-index
invariant-loop-index l = record {
  broken : IsBroken l.left;
  part : IsPartOf l.fn.plot l.left;
  there : l.place < length l.left.traitors;
  far : LiesSoFar l.fn.plot l.place l.index l.left;
}

abbrev pub decreases-loop-index : goal.decreases-loop-index
decreases-loop-index l = length (traitor_at l.left l.place).lies - l.index
