-- The order of the rows in a list of messages or chains. If a diagram has no room for all of them, lies come first.
use Rattle.std.specs.Prelude.{ℕ, ◌==◌, nat_le, Bool, not, if◌then◌else◌, List, [], ◌∷◌, ◌++◌, length, filter}
use Rattle.std.specs.List.{list_any}

-- Returns the elements of a list that are not the same as an earlier one. The elements of `before` count as earlier.
unfoldable pub firsts : {A : Type 0} → (A → A → Bool) → List A → List A → List A
firsts same before [] = []
firsts same before (x ∷ xs) = (if list_any (same x) before then [] else x ∷ []) ++ firsts same (before ++ x ∷ []) xs

-- Returns the elements of a list that are the same as an earlier one. The elements of `before` count as earlier.
unfoldable pub repeats : {A : Type 0} → (A → A → Bool) → List A → List A → List A
repeats same before [] = []
repeats same before (x ∷ xs) = (if list_any (same x) before then x ∷ [] else []) ++ repeats same (before ++ x ∷ []) xs

-- The largest number of rows that are drawn of a list.
abbrev pub most_rows : ℕ
most_rows = 24

-- Returns whether two elements have the same sender.
abbrev pub is_by_one : {A : Type 0} → (A → ℕ) → A → A → Bool
is_by_one teller one other = teller one == teller other

-- Returns the elements of a list sorted: the first lie of each sender, then the other lies, then the honest elements.
abbrev pub lies_first : {A : Type 0} → (A → Bool) → (A → ℕ) → List A → List A
lies_first lie teller list =
    firsts (is_by_one teller) [] (filter lie list) ++ repeats (is_by_one teller) [] (filter lie list)
    ++ filter (λ x. not (lie x)) list

-- Returns the elements of a list in the order of their rows: as given if there are at most 24, else with lies first.
abbrev pub arranged : {A : Type 0} → (A → Bool) → (A → ℕ) → List A → List A
arranged lie teller list = if nat_le (length list) most_rows then list else lies_first lie teller list
