-- The children of a label: a part of the list of labels of the next length.
use Rattle.std.proofs.Common.{ℕ, zero, suc, ◌+◌, ◌-◌, ◌*◌, ◌<◌, ◌≤◌, ◌≡◌, ◌≢◌, List, [], ◌∷◌, ◌++◌, map, length, refl, ap, ◌∙◌, arith, Some}
use Rattle.std.specs.Prelude.{slice_get, slice_range}
use Rattle.std.specs.List.{range_with_len}
use Rattle.std.proofs.lemmas.List.{length-map}
use Rattle.std.proofs.lemmas.List.Edits.{length-between}
use Rattle.std.proofs.lemmas.Nat.{mul-le}
use Rattle.label.specs.Labels.{others, labels}
use Rattle.label.proofs.Places.{count_is_product, few_children, IsOneOf, all-at, labels-are}
use Rattle.label.proofs.Ranks.{children}

-- Proves that a function of indices gives the same list as a function of the elements there.
pub by_place : {A : Type 0} (F : ℕ → ℕ) (G : A → ℕ) (a : ℕ) (xs : List A) → ((i : ℕ) (j : A) → slice_get xs i ≡ Some j → F (a + i) ≡ G j) → map F (range_with_len a (length xs)) ≡ map G xs
by_place F G a [] same = refl
by_place F G a (x ∷ xs) same =
    let first : F a ≡ G x = let z : a ≡ a + 0 = omega arith in ap F z ∙ same 0 x refl in
    rw (first, by_place F G (a + 1) xs (λ i j e. let z : (a + 1) + i ≡ a + suc i = omega arith in ap F z ∙ same (suc i) j e)) refl

-- Proves that the number of children is the width.
pub wide : (n c p k rank : ℕ) (w : List ℕ) → c < n → p < n → p ≢ c → slice_get (labels n c p (suc k)) rank ≡ Some w → length (others n (p ∷ w)) ≡ n - 1 - suc k
wide n c p k rank w inside within ne at =
    let one : IsOneOf n c p k w = all-at (IsOneOf n c p k) (labels n c p (suc k)) rank w (labels-are n c p k inside ne) at in
    let many : length (children n p w) ≡ n - 2 - k = few_children n c p k w within one in
    let mapped : length (children n p w) ≡ length (others n (p ∷ w)) = length-map (others n (p ∷ w)) (λ j. w ++ j ∷ []) in
    omega arith

-- Proves that the ranks of the children are ranks of labels of the next length.
pub part-within : (n c p size rank width : ℕ) → c < n → p < n → p ≢ c → 0 < size → width ≡ n - 1 - size → rank < length (labels n c p size) → rank * width + width ≤ length (labels n c p (size + 1))
part-within n c p zero rank width inside within ne some ew l = absurd (omega arith)
part-within n c p (suc k) rank width inside within ne some ew l =
    let next : suc k + 1 ≡ suc (suc k) = omega arith in
    let w : n - 2 - k ≡ width = omega arith in
    let count : length (labels n c p (suc (suc k))) ≡ length (labels n c p (suc k)) * width = count_is_product n c p k inside within ne ∙ ap (λ (x : ℕ). length (labels n c p (suc k)) * x) w in
    let rows : (rank + 1) * width ≤ length (labels n c p (suc k)) * width = mul-le (rank + 1) width (length (labels n c p (suc k))) width (omega arith) (omega arith) in
    rw (next, count) (omega arith)

pub rank-within : (n c p size rank width i : ℕ) → c < n → p < n → p ≢ c → 0 < size → width ≡ n - 1 - size → rank < length (labels n c p size) → i < width → rank * width + i < length (labels n c p (size + 1))
rank-within n c p size rank width i inside within ne some ew r l =
    let part : rank * width + width ≤ length (labels n c p (size + 1)) = part-within n c p size rank width inside within ne some ew r in
    omega arith

-- Proves that the part has the given length.
pub part-long : {A : Type 0} (level part : List A) (a width : ℕ) → a + width ≤ length level → part ≡ slice_range level a (a + width) → length part ≡ width
part-long level part a width l e = ap length e ∙ (length-between level a (a + width) l ∙ omega arith)
