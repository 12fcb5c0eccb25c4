-- The traitors of a scenario, found general by general.
use Rattle.std.proofs.Common.{ℕ, ◌+◌, ◌≡◌, Bool, true, false, cond, List, [], ◌∷◌, ◌++◌, filter, sym, ap, ◌∙◌, inl, inr, append-nil}
use Rattle.std.proofs.lemmas.Bool.{cases_Bool, cond-true, cond-false}
use Rattle.label.specs.Labels.{generals}
use Rattle.book.proofs.Gathering.{range_more}

filter_push : (t : ℕ → Bool) (xs : List ℕ) (x : ℕ) → filter t (xs ++ x ∷ []) ≡ filter t xs ++ cond (t x) (x ∷ []) []
filter_push t [] x = elim (cases_Bool (t x)) [
  | inl yes_ ↦ cond-true (t x) (x ∷ []) [] yes_ ∙ sym (cond-true (t x) (x ∷ []) [] yes_)
  | inr no_ ↦ cond-false (t x) (x ∷ []) [] no_ ∙ sym (cond-false (t x) (x ∷ []) [] no_)
]
filter_push t (y ∷ ys) x = elim (cases_Bool (t y)) [
  | inl yes_ ↦
      cond-true (t y) (y ∷ filter t (ys ++ x ∷ [])) (filter t (ys ++ x ∷ [])) yes_
      ∙ (ap (λ zs. y ∷ zs) (filter_push t ys x) ∙ ap (λ zs. zs ++ cond (t x) (x ∷ []) []) (sym (cond-true (t y) (y ∷ filter t ys) (filter t ys) yes_)))
  | inr no_ ↦
      cond-false (t y) (y ∷ filter t (ys ++ x ∷ [])) (filter t (ys ++ x ∷ [])) no_
      ∙ (filter_push t ys x ∙ ap (λ zs. zs ++ cond (t x) (x ∷ []) []) (sym (cond-false (t y) (y ∷ filter t ys) (filter t ys) no_)))
]

-- Proves that one more traitor is added to the list.
pub named_more : (t : ℕ → Bool) (g : ℕ) → t g ≡ true → filter t (generals (g + 1)) ≡ filter t (generals g) ++ g ∷ []
named_more t g is = ap (filter t) (range_more g) ∙ (filter_push t (generals g) g ∙ ap (λ zs. filter t (generals g) ++ zs) (cond-true (t g) (g ∷ []) [] is))

-- Proves that one more loyal general is not added.
pub named_same : (t : ℕ → Bool) (g : ℕ) → t g ≡ false → filter t (generals (g + 1)) ≡ filter t (generals g)
named_same t g is = ap (filter t) (range_more g) ∙ (filter_push t (generals g) g ∙ (ap (λ zs. filter t (generals g) ++ zs) (cond-false (t g) (g ∷ []) [] is) ∙ append-nil (filter t (generals g))))
