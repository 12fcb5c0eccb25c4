use Rattle.std.proofs.Common.{ℕ, ◌<◌}
use Rattle.surveys.specs.Shrinking.{ComesWell, without_traitor}
use Rattle.surveys.proofs.reductions.fewer_traitors.Given as goal

abbrev pub invariant-loop-place : goal.invariant-loop-place
invariant-loop-place l = (place : ℕ) → place < l.place → ComesWell (without_traitor l.plot place)
