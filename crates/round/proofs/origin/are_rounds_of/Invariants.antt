use Rattle.std.proofs.Common.{◌≡◌, ◌<◌, ℕ, suc, Some, List}
use Rattle.std.specs.Prelude.{slice_get}
use Rattle.round.specs.Letters.{Letter}
use Rattle.round.specs.Origin.{AreLettersOf}
use Rattle.round.proofs.origin.are_rounds_of.Given as goal

abbrev pub invariant-loop-round : goal.invariant-loop-round
invariant-loop-round l = (l.number ≡ l.round-index) × ((k : ℕ) (row : List Letter) → k < l.round-index → slice_get l.rounds k ≡ Some row → AreLettersOf l.scenario (suc k) row)
