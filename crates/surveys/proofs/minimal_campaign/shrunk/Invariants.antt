use Rattle.surveys.specs.Shrinking.{IsBroken, IsPartOf, size}
use Rattle.surveys.proofs.Reducing.{ShrunkSoFar}
use Rattle.surveys.proofs.minimal_campaign.shrunk.Given as goal

abbrev pub invariant-loop-left : goal.invariant-loop-left
invariant-loop-left l = record { broken : IsBroken l.left; part : IsPartOf l.fn.plot l.left; far : ShrunkSoFar l.fn.plot l.left }

abbrev pub decreases-loop-left : goal.decreases-loop-left
decreases-loop-left l = size l.left
