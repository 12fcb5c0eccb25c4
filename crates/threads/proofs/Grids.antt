-- Letters for which a ledger accounts are exactly one for each general and round.
use Rattle.std.proofs.Common.{◌≡◌, ℕ, suc, List, [], ◌∷◌, ◌++◌, length, drop, ap, sym, ◌∙◌, Some, zero}
use Rattle.std.specs.Prelude.{slice_get, sum_by}
use Rattle.board.specs.Board.{Access}
use Rattle.round.specs.Scenario.{Scenario}
use Rattle.round.specs.Letters.{Letter}
use Rattle.world.specs.Kind.{Kind}
use Rattle.world.specs.KindAccounted.{letters_by, AreAccounted, IsAccounted}
use Rattle.world.proofs.Listing.{each-get}
use Rattle.threads.specs.Taking.{IsGrid}

accounted_long : (K : Kind) (s : Scenario) (rounds before : List (List Letter)) (ledger : List Access) → AreAccounted K s before ledger rounds → (i : ℕ) (row : List Letter) → slice_get rounds i ≡ Some row → length row ≡ s.generals
accounted_long K s [] before ledger h i row at = cc
accounted_long K s (letters ∷ rounds) before ledger h zero row at = (let same : letters ≡ row = cc in ap length (sym same) ∙ h.0.count)
accounted_long K s (letters ∷ rounds) before ledger h (suc i) row at = accounted_long K s rounds (before ++ letters ∷ []) (drop (sum_by (λ l. length l.transcript) letters) ledger) h.1 i row at

pub grid_of : (K : Kind) (s : Scenario) (ledger : List Access) (letters : List Letter) → IsAccounted K s ledger letters → IsGrid s.generals (suc s.bound) letters
grid_of K s ledger letters h = record {
  count = h.0;
  rows = λ r lt. accounted_long K s _ [] ledger h.1 r (letters_by s.generals (suc r) letters) (each-get (suc s.bound) (λ r. letters_by s.generals (suc r) letters) r lt);
}
