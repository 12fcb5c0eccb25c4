-- Parts of lists.
use Rattle.std.proofs.Common.{◌≡◌, ℕ, zero, suc, ◌+◌, ◌-◌, ◌<◌, List, [], ◌∷◌, ◌++◌, length, take, drop, get_or, refl, sym, ap, ◌∙◌, arith}
use Rattle.std.specs.Prelude.{slice_range}

take-none : {A : Type 0} (n : ℕ) → take n (let none : List A = [] in none) ≡ []
take-none zero = refl
take-none (suc n) = refl

-- A part consists of the two parts into which it is split.
pub take-split : {A : Type 0} (m n : ℕ) (xs : List A) → take (m + n) xs ≡ take m xs ++ take n (drop m xs)
take-split zero n xs = let e : 0 + n ≡ n = omega arith in ap (λ (k : ℕ). take k xs) e
take-split (suc m) n [] = take-none (suc m + n) ∙ sym (take-none n)
take-split (suc m) n (x ∷ xs) =
    let e : suc m + n ≡ suc (m + n) = omega arith in
    ap (λ (k : ℕ). take k (x ∷ xs)) e ∙ ap (λ (l : List _). x ∷ l) (take-split m n xs)

-- One item is a part.
pub take-one : {A : Type 0} (place : ℕ) (xs : List A) (x : A) → place < length xs → x ≡ get_or xs place x → take 1 (drop place xs) ≡ x ∷ []
take-one place [] x l e = absurd (omega arith)
take-one zero (y ∷ xs) x l e = ap (λ (z : _). z ∷ []) (sym e)
take-one (suc place) (y ∷ xs) x l e = take-one place xs x (omega arith) e

-- A range of this number of items.
pub range_is : {A : Type 0} (xs : List A) (place size : ℕ) → slice_range xs place (place + size) ≡ take size (drop place xs)
range_is xs place size = let e : place + size - place ≡ size = omega arith in ap (λ (k : ℕ). take k (drop place xs)) e
