-- The first parts of a label: their ranks, and the generals who are not on them.
use Rattle.std.proofs.Common.{ℕ, ◌+◌, ◌-◌, ◌*◌, ◌<◌, ◌≡◌, false, List, [], ◌∷◌, ◌++◌, length, get_or, take, Some}
use Rattle.std.specs.Prelude.{slice_get}
use Rattle.std.proofs.lemmas.List.{take_more}
use Rattle.label.specs.Labels.{on, others}
use Rattle.label.specs.Oral.{IsLabel, BeginsWith}
use Rattle.label.specs.declared.space.Space.{Space}
use Rattle.label.specs.Space.{IsSpace, labels_of}
use Rattle.label.proofs.Bounds.{rank-more}
use Rattle.label.specs.Mask.{IsFree}

-- Proves which generals are free after the first general.
pub first-free : (free p c : ℕ) (w : List ℕ) → BeginsWith c w → IsFree free (p ∷ c ∷ []) → IsFree free (p ∷ take 1 w)
first-free free p c [] b f = absurd b
first-free free p c (x ∷ xs) b f = rw b f

-- Proves which generals are free after one more general.
pub more-free : (free p : ℕ) (w : List ℕ) (i : ℕ) → i < length w → IsFree free ((p ∷ take i w) ++ get_or w i 0 ∷ []) → IsFree free (p ∷ take (i + 1) w)
more-free free p w i l f = rw (take_more w i 0 l) f

-- Proves the rank after one more general.
pub more : (s : Space) → IsSpace s → (w : List ℕ) → IsLabel s.generals s.commander w → on w s.general ≡ false → (i r width t r' : ℕ) → 0 < i → i < length w → width ≡ s.generals - 1 - i → t ≡ length (others (get_or w i 0) (s.general ∷ take i w)) → r' ≡ r * width + t → slice_get (labels_of s i) r ≡ Some (take i w) → slice_get (labels_of s (i + 1)) r' ≡ Some (take (i + 1) w)
more s is w a o i r width t r' some l ew et er e = rw (er, ew, et) (rank-more s.generals s.commander s.general w is.commander is.general is.lieutenant a.below a.distinct o i r some l e)
