-- Members of lists, through the functions that make lists.
use Rattle.std.proofs.Common.{ℕ, zero, suc, ◌<◌, ◌≡◌, length, get_or, arith, Bool, true, false, cond, List, [], ◌∷◌, ◌++◌, map, refl, sym, ap, subst, ◌∙◌, inl, inr}
use Rattle.std.specs.Prelude.{filter, flat_map, ◌⊎◌, ◌==◌}
use Rattle.std.proofs.lemmas.Bool.{false≢true, eqb-true, eq-eqb, or_cases, or_left, or_right}
use Rattle.label.specs.Labels.{on}
use Rattle.lies.specs.Attempts.{IsIn}

pub in_left : {A : Type 0} → (x : A) (xs ys : List A) → IsIn x xs → IsIn x (xs ++ ys)
in_left x [] ys i = absurd i
in_left x (z ∷ xs) ys (inl e) = inl e
in_left x (z ∷ xs) ys (inr i) = inr (in_left x xs ys i)

pub in_right : {A : Type 0} → (x : A) (xs ys : List A) → IsIn x ys → IsIn x (xs ++ ys)
in_right x [] ys i = i
in_right x (z ∷ xs) ys i = inr (in_right x xs ys i)

one_more : {A : Type 0} → (x z : A) (xs ys : List A) → IsIn x xs ⊎ IsIn x ys → IsIn x (z ∷ xs) ⊎ IsIn x ys
one_more x z xs ys (inl i) = inl (inr i)
one_more x z xs ys (inr i) = inr i

pub in_either : {A : Type 0} → (x : A) (xs ys : List A) → IsIn x (xs ++ ys) → IsIn x xs ⊎ IsIn x ys
in_either x [] ys i = inr i
in_either x (z ∷ xs) ys (inl e) = inl (inl e)
in_either x (z ∷ xs) ys (inr i) = one_more x z xs ys (in_either x xs ys i)

pub in_flat_map : {A B : Type 0} → (f : A → List B) (y : B) (x : A) (xs : List A) → IsIn x xs → IsIn y (f x) → IsIn y (flat_map f xs)
in_flat_map f y x [] i h = absurd i
in_flat_map f y x (z ∷ xs) (inl e) h = in_left y (f z) (flat_map f xs) (subst (λ a. IsIn y (f a)) e h)
in_flat_map f y x (z ∷ xs) (inr i) h = in_right y (f z) (flat_map f xs) (in_flat_map f y x xs i h)

-- The element of the list from which an element of a flat map comes.
pub record FromFlatMap {A B : Type 0} (f : A → List B) (y : B) (xs : List A) : Type 0 where
  pub source : A
  pub listed : IsIn source xs
  pub member : IsIn y (f source)

pub from_flat_map : {A B : Type 0} → (f : A → List B) (y : B) (xs : List A) → IsIn y (flat_map f xs) → FromFlatMap f y xs
from_flat_map f y [] i = absurd i
from_flat_map f y (z ∷ xs) i = pick f y z xs (from_flat_map f y xs) (in_either y (f z) (flat_map f xs) i)
  where
    pick : {A B : Type 0} → (f : A → List B) (y : B) (z : A) (xs : List A) → (IsIn y (flat_map f xs) → FromFlatMap f y xs) → IsIn y (f z) ⊎ IsIn y (flat_map f xs) → FromFlatMap f y (z ∷ xs)
    pick f y z xs ih (inl here) = record { source = z; listed = inl refl; member = here }
    pick f y z xs ih (inr there) = let rest : FromFlatMap f y xs = ih there in record { source = rest.source; listed = inr rest.listed; member = rest.member }

pub in_map : {A B : Type 0} → (f : A → B) (x : A) (xs : List A) → IsIn x xs → IsIn (f x) (map f xs)
in_map f x [] i = absurd i
in_map f x (z ∷ xs) (inl e) = inl (ap f e)
in_map f x (z ∷ xs) (inr i) = inr (in_map f x xs i)

-- The element of the list from which an element of a map comes.
pub record FromMap {A B : Type 0} (f : A → B) (y : B) (xs : List A) : Type 0 where
  pub source : A
  pub listed : IsIn source xs
  pub is : y ≡ f source

pub from_map : {A B : Type 0} → (f : A → B) (y : B) (xs : List A) → IsIn y (map f xs) → FromMap f y xs
from_map f y [] i = absurd i
from_map f y (z ∷ xs) (inl e) = record { source = z; listed = inl refl; is = e }
from_map f y (z ∷ xs) (inr i) = let rest : FromMap f y xs = from_map f y xs i in record { source = rest.source; listed = inr rest.listed; is = rest.is }

pub in_filter : {A : Type 0} → (t : A → Bool) (x : A) (xs : List A) → IsIn x xs → t x ≡ true → IsIn x (filter t xs)
in_filter t x [] i h = absurd i
in_filter t x (z ∷ xs) i h = keep t x z xs (λ j. in_filter t x xs j h) h (t z) refl i
  where
    keep : {A : Type 0} → (t : A → Bool) (x z : A) (xs : List A) → (IsIn x xs → IsIn x (filter t xs)) → t x ≡ true → (b : Bool) → t z ≡ b → IsIn x (z ∷ xs) → IsIn x (cond b (z ∷ filter t xs) (filter t xs))
    keep t x z xs ih h true e (inl here) = inl here
    keep t x z xs ih h true e (inr there) = inr (ih there)
    keep t x z xs ih h false e (inl here) = absurd (false≢true (sym e ∙ (ap t (sym here) ∙ h)))
    keep t x z xs ih h false e (inr there) = ih there

pub from_filter : {A : Type 0} → (t : A → Bool) (x : A) (xs : List A) → IsIn x (filter t xs) → IsIn x xs × (t x ≡ true)
from_filter t x [] i = absurd i
from_filter t x (z ∷ xs) i = kept t x z xs (from_filter t x xs) (t z) refl i
  where
    kept : {A : Type 0} → (t : A → Bool) (x z : A) (xs : List A) → (IsIn x (filter t xs) → IsIn x xs × (t x ≡ true)) → (b : Bool) → t z ≡ b → IsIn x (cond b (z ∷ filter t xs) (filter t xs)) → IsIn x (z ∷ xs) × (t x ≡ true)
    kept t x z xs ih true e (inl here) = (inl here, ap t here ∙ e)
    kept t x z xs ih true e (inr there) = (inr (ih there).0, (ih there).1)
    kept t x z xs ih false e i = (inr (ih i).0, (ih i).1)

-- Proves that the two words for a general in a list agree.
pub on_in : (xs : List ℕ) (j : ℕ) → IsIn j xs → on xs j ≡ true
on_in [] j i = absurd i
on_in (x ∷ xs) j (inl e) = or_left (x == j) (on xs j) (eq-eqb x j (sym e))
on_in (x ∷ xs) j (inr i) = or_right (x == j) (on xs j) (on_in xs j i)

pub in_on : (xs : List ℕ) (j : ℕ) → on xs j ≡ true → IsIn j xs
in_on [] j e = cc
in_on (x ∷ xs) j e = elim (or_cases (x == j) (on xs j) e) [
  | inl here ↦ inl (sym (eqb-true x j here))
  | inr there ↦ inr (in_on xs j there)
]

-- Proves that what is read from a list is in it.
pub in_get : {A : Type 0} → (xs : List A) (i : ℕ) (d : A) → i < length xs → IsIn (get_or xs i d) xs
in_get [] i d l = absurd (omega arith)
in_get (x ∷ xs) zero d l = inl refl
in_get (x ∷ xs) (suc i) d l = inr (in_get xs i d (omega arith))
