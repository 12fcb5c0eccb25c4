-- A label with one general more.
use Rattle.std.proofs.Common.{ℕ, ◌<◌, ◌≡◌, false, List, [], ◌∷◌, ◌++◌, refl}
use Rattle.label.specs.Labels.{on}
use Rattle.label.specs.Oral.{IsLabel, AllBelow, BeginsWith, Messages, taken, heard}
use Rattle.label.proofs.Counting.{distinct-push}

begins-push : (c : ℕ) (w : List ℕ) (j : ℕ) → BeginsWith c w → BeginsWith c (w ++ j ∷ [])
begins-push c [] j b = absurd b
begins-push c (x ∷ xs) j b = b

-- Proves that all generals of the longer label exist.
pub below-push : (n : ℕ) (w : List ℕ) (j : ℕ) → AllBelow n w → j < n → AllBelow n (w ++ j ∷ [])
below-push n [] j b l = (l, tt)
below-push n (x ∷ xs) j b l = (b.0, below-push n xs j b.1 l)

-- Proves that a label with a new general is a label.
pub IsLabel-push : {n c : ℕ} {w : List ℕ} → IsLabel n c w → (j : ℕ) → j < n → on w j ≡ false → IsLabel n c (w ++ j ∷ [])
IsLabel-push {n} {c} {w} a j l o = record { first = begins-push c w j a.first; below = below-push n w j a.below l; distinct = distinct-push w j a.distinct o }

-- Proves that the order a general took for a label that is not empty is the one he received.
pub heard-push : (M : Messages) (order : ℕ) (u : List ℕ) (g p : ℕ) → heard M order (u ++ g ∷ []) p ≡ taken M (u ++ g ∷ []) p
heard-push M order [] g p = refl
heard-push M order (x ∷ xs) g p = refl
