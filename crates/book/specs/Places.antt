-- The places of a table, in the order in which a table is written. A place is a label and a receiver of it.
use Rattle.std.specs.Prelude.{ℕ, zero, suc, ◌+◌, List, [], ◌∷◌, ◌++◌}
use Rattle.std.specs.List.{flat_map, range_with_len}
use Rattle.label.specs.Labels.{others}

-- A place: a label, and a receiver, who is a general not on it.
abbrev pub Place : Type 0
Place = List ℕ × ℕ

-- Returns the places with the label `w`, by receiver, ascending.
abbrev pub places_at : ℕ → List ℕ → List Place
places_at n w = flat_map (λ p. (w, p) ∷ []) (others n w)

-- Returns the places of the labels that begin with `w` and have `k` further generals.
abbrev pub places_from : ℕ → ℕ → List ℕ → List Place
places_from n zero w = places_at n w
places_from n (suc k) w = flat_map (λ j. places_from n k (w ++ j ∷ [])) (others n w)

-- Returns all places of a campaign, those of the shorter labels first.
abbrev pub places : ℕ → ℕ → ℕ → List Place
places n m c = flat_map (λ k. places_from n k (c ∷ [])) (range_with_len 0 (m + 1))
