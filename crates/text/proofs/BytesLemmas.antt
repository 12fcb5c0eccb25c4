-- Lemmas about tests that each byte of a text passes.
use Rattle.std.proofs.Common.{◌≡◌, ℕ, Bool, true, List, [], ◌∷◌, ◌++◌, refl}
use Rattle.std.specs.List.{list_all}
use Rattle.std.proofs.lemmas.Bool.{and_from, and_parts}

-- If the bytes of two texts pass a test, so do the bytes of the joined text.
pub all-append : (p : ℕ → Bool) (xs ys : List ℕ) → list_all p xs ≡ true → list_all p ys ≡ true → list_all p (xs ++ ys) ≡ true
all-append p [] ys h k = k
all-append p (x ∷ xs) ys h k = and_from (p x) (list_all p (xs ++ ys)) (and_parts (p x) (list_all p xs) h).0 (all-append p xs ys (and_parts (p x) (list_all p xs) h).1 k)

-- A text that passes a test passes a weaker one.
pub all-weaker : (p q : ℕ → Bool) → ((c : ℕ) → p c ≡ true → q c ≡ true) → (xs : List ℕ) → list_all p xs ≡ true → list_all q xs ≡ true
all-weaker p q f [] h = refl
all-weaker p q f (x ∷ xs) h = and_from (q x) (list_all q xs) (f x (and_parts (p x) (list_all p xs) h).0) (all-weaker p q f xs (and_parts (p x) (list_all p xs) h).1)
