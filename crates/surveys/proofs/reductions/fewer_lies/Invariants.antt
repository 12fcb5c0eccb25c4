use Rattle.std.proofs.Common.{ℕ, ◌<◌}
use Rattle.surveys.specs.Shrinking.{LiesAreNeeded}
use Rattle.surveys.proofs.reductions.fewer_lies.Given as goal

abbrev pub invariant-loop-place : goal.invariant-loop-place
invariant-loop-place l = (place : ℕ) → place < l.place → LiesAreNeeded l.plot place
