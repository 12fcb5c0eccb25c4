-- The search for the first element that passes a test.
use Rattle.std.proofs.Common.{ℕ, ◌<◌, ◌≡◌, ◌≢◌, Bool, true, false, cond, List, [], ◌∷◌, refl, sym, ap, ◌∙◌, arith, inl, inr, Option, Some, None}
use Rattle.std.specs.Prelude.{◌==◌, find, count_by}
use Rattle.std.proofs.lemmas.Bool.{cases_Bool, cond-true, cond-false, ne_eqb, true≢false}
use Rattle.std.proofs.lemmas.List.Sums.{sum_by-cons}

-- Proves that the element that is found passes the test.
pub find_passes : {A : Type 0} (t : A → Bool) (xs : List A) (v : A) → find t xs ≡ Some v → t v ≡ true
find_passes t [] v e = cc
find_passes t (x ∷ xs) v e = elim (cases_Bool (t x)) [
  | inl it ↦ let same : x ≡ v = let h = sym (cond-true (t x) (Some x) (find t xs) it) ∙ e in cc in rw same at it
  | inr fails ↦ find_passes t xs v (sym (cond-false (t x) (Some x) (find t xs) fails) ∙ e)
]

-- Proves that if nothing is found, the list does not contain an element that would pass.
pub find_none : (t : ℕ → Bool) (xs : List ℕ) (v : ℕ) → find t xs ≡ None → t v ≡ true → count_by (λ x. x == v) xs ≡ 0
find_none t [] v e pass = refl
find_none t (x ∷ xs) v e pass = elim (cases_Bool (t x)) [
  | inl it ↦ let h = sym (cond-true (t x) (Some x) (find t xs) it) ∙ e in cc
  | inr fails ↦
      let ne : x ≢ v = λ same. true≢false (sym pass ∙ (ap t (sym same) ∙ fails)) in
      let rest : count_by (λ y. y == v) xs ≡ 0 = find_none t xs v (sym (cond-false (t x) (Some x) (find t xs) fails) ∙ e) pass in
      sum_by-cons (λ y. cond (y == v) 1 0) x xs ∙ rw (ne_eqb x v ne, rest) refl
]

pub cases_find : (t : ℕ → Bool) (xs : List ℕ) (A : Type 0) → (find t xs ≡ None → A) → ((v : ℕ) → find t xs ≡ Some v → A) → A
cases_find t xs A none some = by_cases (find t xs) none some
  where
    by_cases : {A : Type 0} (o : Option ℕ) → (o ≡ None → A) → ((v : ℕ) → o ≡ Some v → A) → A
    by_cases None none some = none refl
    by_cases (Some v) none some = some v refl

-- Proves that nothing is found if no element passes.
pub none_found : (t : ℕ → Bool) (xs : List ℕ) → ((x : ℕ) → t x ≡ true → ⊥) → find t xs ≡ None
none_found t [] fails = refl
none_found t (x ∷ xs) fails =
    elim (cases_Bool (t x)) [
      | inl it ↦ absurd (fails x it)
      | inr it ↦ cond-false (t x) (Some x) (find t xs) it ∙ none_found t xs fails
    ]
