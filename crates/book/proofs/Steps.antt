-- One more general, in a loop over those who are not on a list.
use Rattle.std.proofs.Common.{ℕ, ◌+◌, ◌≤◌, ◌≡◌, true, false, not, List, [], ◌∷◌, ◌++◌, map, length, ap, ◌∙◌, arith, add-one}
use Rattle.std.proofs.lemmas.List.{length-map, map-append}
use Rattle.std.proofs.lemmas.List.Sums.{length-filter, count_by-le-length}
use Rattle.std.proofs.lemmas.List.FromFn.{length-range_with_len}
use Rattle.label.specs.Labels.{on, others, generals}
use Rattle.label.proofs.Ranks.{others-more_no as kept, others-more_yes as joined}

-- A general who is on the label is skipped.
pub others-more_no : (w : List ℕ) (j : ℕ) → on w j ≡ true → others (j + 1) w ≡ others j w
others-more_no w j h = rw add-one (kept w j h)

-- Another general is the last of those who are not.
pub others-more_yes : (w : List ℕ) (j : ℕ) → on w j ≡ false → others (j + 1) w ≡ others j w ++ j ∷ []
others-more_yes w j h = rw add-one (joined w j h)

-- One more item.
pub entries_more : (F : ℕ → ℕ) (w : List ℕ) (j : ℕ) → on w j ≡ false → map F (others (j + 1) w) ≡ map F (others j w) ++ F j ∷ []
entries_more F w j h = ap (map F) (others-more_yes w j h) ∙ map-append F (others j w) (j ∷ [])

-- There are no more items than generals.
pub entries_few : (F : ℕ → ℕ) (w : List ℕ) (j : ℕ) → length (map F (others j w)) ≤ j
entries_few F w j = rw length-map (rw length-filter (omega (arith, count_by-le-length (λ i. not (on w i)) (generals j), length-range_with_len 0 j)))
