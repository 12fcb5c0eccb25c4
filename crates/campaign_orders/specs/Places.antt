-- The index of given decisions in a list of findings (own).
use Rattle.std.specs.Prelude.{ℕ, ◌≡◌, ◌<◌, true, false, List, length, slice_index_or, bytes_eq}
use Rattle.campaign_orders.specs.Exploring.{Finding}

-- States that none of the first `n` findings has the decisions `ds`.
abbrev pub AreElsewhere : ℕ → List Finding → List ℕ → Type 0
AreElsewhere n findings ds = (k : ℕ) (d : Finding) → k < n → bytes_eq (slice_index_or findings k d).decisions ds ≡ false

-- States that no finding has the decisions `ds`.
abbrev pub IsNowhere : List Finding → List ℕ → Type 0
IsNowhere findings ds = AreElsewhere (length findings) findings ds

-- States that `place` is the index of the first finding with the decisions `ds`.
abbrev pub IsPlaceOf : List Finding → List ℕ → ℕ → Type 0
IsPlaceOf findings ds place =
    (place < length findings) × AreElsewhere place findings ds
    × ((d : Finding) → bytes_eq (slice_index_or findings place d).decisions ds ≡ true)
