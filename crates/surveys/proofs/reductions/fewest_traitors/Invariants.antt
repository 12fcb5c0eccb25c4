use Rattle.std.proofs.Common.{◌-◌, length}
use Rattle.surveys.specs.Shrinking.{IsBroken, IsPartOf}
use Rattle.surveys.proofs.Reducing.{TraitorsSoFar}
use Rattle.surveys.proofs.reductions.fewest_traitors.Given as goal

abbrev pub invariant-loop-place : goal.invariant-loop-place
invariant-loop-place l = record { broken : IsBroken l.left; part : IsPartOf l.fn.plot l.left; far : TraitorsSoFar l.fn.plot l.place l.left }

abbrev pub decreases-loop-place : goal.decreases-loop-place
decreases-loop-place l = length l.left.traitors - l.place
