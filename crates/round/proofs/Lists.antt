-- Lists by index.
use Rattle.std.proofs.Common.{◌≡◌, ℕ, zero, suc, ◌<◌, List, [], ◌∷◌, take, map, get_or, Bool, true, false, refl, ap, ◌∙◌, ◌⊎◌, inl, inr, ⊎_elim, Some, arith, length, set}
use Rattle.std.specs.Prelude.{slice_get}
use Rattle.round.specs.Letters.{value_beside}
use Rattle.std.proofs.lemmas.Bool.{cases_Bool}

-- Equal optional elements are equal elements.
pub some_same : {A : Type 0} {a b : A} → Some a ≡ Some b → a ≡ b
some_same e = cc

-- The element at an index that was set, and at another index.
pub get_set : {A : Type 0} (xs : List A) (i : ℕ) (x : A) → i < length xs → slice_get (set xs i x) i ≡ Some x
get_set [] i x lt = absurd (omega arith)
get_set (y ∷ xs) zero x lt = refl
get_set (y ∷ xs) (suc i) x lt = get_set xs i x (omega arith)

pub get_unset : {A : Type 0} (xs : List A) (i j : ℕ) (x : A) → (j ≡ i → ⊥) → slice_get (set xs i x) j ≡ slice_get xs j
get_unset [] i j x ne = refl
get_unset (y ∷ xs) zero zero x ne = absurd (ne refl)
get_unset (y ∷ xs) zero (suc j) x ne = refl
get_unset (y ∷ xs) (suc i) zero x ne = refl
get_unset (y ∷ xs) (suc i) (suc j) x ne = get_unset xs i j x (λ e. ne (ap suc e))

-- There is an element at each index within a list.
pub some_at : {A : Type 0} (xs : List A) (i : ℕ) → i < length xs → (x : A) × (slice_get xs i ≡ Some x)
some_at [] i lt = absurd (omega arith)
some_at (x ∷ xs) zero lt = (x, refl)
some_at (x ∷ xs) (suc i) lt = some_at xs i (omega arith)

module _ {A : Type 0} where
  pub take-get_or : (xs : List A) (k i : ℕ) (d : A) → i < k → get_or (take k xs) i d ≡ get_or xs i d
  take-get_or xs zero i d lt = absurd (omega arith)
  take-get_or [] (suc k) i d lt = refl
  take-get_or (x ∷ xs) (suc k) zero d lt = refl
  take-get_or (x ∷ xs) (suc k) (suc i) d lt = take-get_or xs k i d (omega arith)

module _ {A B : Type 0} where
  -- The element at the index of the only one that passes.
  pub beside-map : (is : A → Bool) (none : B) (f : A → B) (xs : List A) (x : A) (i : ℕ) → slice_get xs i ≡ Some x → is x ≡ true → ((y : A) → is y ≡ true → y ≡ x) → value_beside is none xs (map f xs) ≡ f x
  beside-map is none f [] x i e h only = cc
  beside-map is none f (y ∷ ys) x zero e h only = let s : y ≡ x = cc in rw (ap is s ∙ h) (ap f s)
  beside-map is none f (y ∷ ys) x (suc i) e h only =
      ⊎_elim (λ (t : is y ≡ true). rw t (ap f (only y t)))
      (λ (t : is y ≡ false). rw t (beside-map is none f ys x i e h only))
      (cases_Bool (is y))
