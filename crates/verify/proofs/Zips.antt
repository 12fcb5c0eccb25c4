-- Lists whose items describe the items of other lists, index by index.
use Rattle.std.proofs.Common.{◌≡◌, ◌≢◌, ℕ, zero, suc, ◌<◌, List, [], ◌∷◌, length, get_or, set, subst, sym, ap, refl, ⊎_elim, get_or-set_same, get_or-set_other}
use Rattle.std.proofs.lemmas.Bool.{cases_eq}
use Rattle.std.proofs.lemmas.List.{get_or_default}
use Rattle.std.specs.List.{AllZip}

pub AllZip-set : {A B : Type 0} (R : A → B → Type 0) (xs : List A) (ys : List B) (i : ℕ) (x : A) (y : B) → AllZip R xs ys → R x y → AllZip R (set xs i x) (set ys i y)
AllZip-set R [] [] i x y z r = tt
AllZip-set R [] (b ∷ ys) i x y z r = absurd z
AllZip-set R (a ∷ xs) [] i x y z r = absurd z
AllZip-set R (a ∷ xs) (b ∷ ys) zero x y z r = (r, z.1)
AllZip-set R (a ∷ xs) (b ∷ ys) (suc i) x y z r = (z.0, AllZip-set R xs ys i x y z.1 r)

pub AllZip-at : {A B : Type 0} (R : A → B → Type 0) (xs : List A) (ys : List B) (i : ℕ) (d : A) (e : B) → AllZip R xs ys → R d e → R (get_or xs i d) (get_or ys i e)
AllZip-at R [] [] i d e z r = r
AllZip-at R [] (b ∷ ys) i d e z r = absurd z
AllZip-at R (a ∷ xs) [] i d e z r = absurd z
AllZip-at R (a ∷ xs) (b ∷ ys) zero d e z r = z.0
AllZip-at R (a ∷ xs) (b ∷ ys) (suc i) d e z r = AllZip-at R xs ys i d e z.1 r

pub AllZip-length : {A B : Type 0} (R : A → B → Type 0) (xs : List A) (ys : List B) → AllZip R xs ys → length xs ≡ length ys
AllZip-length R [] [] z = refl
AllZip-length R [] (b ∷ ys) z = absurd z
AllZip-length R (a ∷ xs) [] z = absurd z
AllZip-length R (a ∷ xs) (b ∷ ys) z = ap suc (AllZip-length R xs ys z.1)

-- What an index has after a write.
pub at_set : {A : Type 0} (P : A → Type 0) (xs : List A) (i k : ℕ) (x d : A) → i < length xs → (k ≡ i → P x) → (k ≢ i → P (get_or xs k d)) → P (get_or (set xs i x) k d)
at_set P xs i k x d l f g =
    ⊎_elim (λ e. subst (λ j. P (get_or (set xs i x) j d)) (sym e) (rw (get_or-set_same xs i x d l) (f e))) (λ n. rw (get_or-set_other xs i k x d n) (g n)) (cases_eq k i)

-- What a read gives, with another default.
pub at_read : {A : Type 0} (P : A → Type 0) (xs : List A) (i k : ℕ) (x d : A) → i < length xs → k ≡ i → P (get_or xs k d) → P (get_or xs i x)
at_read P xs i k x d l e p = rw (get_or_default xs i x d l) (subst (λ j. P (get_or xs j d)) e p)

-- The relation may be weakened at an index.
pub AllZip-narrow : {A B : Type 0} (R : A → B → Type 0) (xs : List A) (ys : List B) (i : ℕ) (x : A) (e : B) → AllZip R xs ys → R x (get_or ys i e) → AllZip R (set xs i x) ys
AllZip-narrow R [] ys i x e z r = z
AllZip-narrow R (a ∷ xs) [] i x e z r = absurd z
AllZip-narrow R (a ∷ xs) (b ∷ ys) zero x e z r = (r, z.1)
AllZip-narrow R (a ∷ xs) (b ∷ ys) (suc i) x e z r = (z.0, AllZip-narrow R xs ys i x e z.1 r)
