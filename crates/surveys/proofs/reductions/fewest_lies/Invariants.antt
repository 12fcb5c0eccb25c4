use Rattle.std.proofs.Common.{◌≡◌, length}
use Rattle.surveys.specs.Shrinking.{IsBroken, IsPartOf}
use Rattle.surveys.proofs.Reducing.{AllSoFar}
use Rattle.surveys.proofs.reductions.fewest_lies.Given as goal

abbrev pub invariant-loop-place : goal.invariant-loop-place
invariant-loop-place l = record {
  broken : IsBroken l.left;
  part : IsPartOf l.fn.plot l.left;
  same : length l.left.traitors ≡ length l.fn.plot.traitors;
  far : AllSoFar l.fn.plot l.place l.left;
}
