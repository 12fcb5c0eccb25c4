-- The number of labels of a space, and how a rank and its label are related.
use Rattle.std.proofs.Common.{ℕ, zero, suc, ◌+◌, ◌-◌, ◌*◌, ◌^◌, ◌<◌, ◌≤◌, ◌≡◌, List, length, refl, sym, ap, ◌∙◌, arith, add-one, [], ◌∷◌, Some, take, true, false, not, ◌&&◌, ◌++◌, ◌/◌, ◌%◌, sub-one}
use Rattle.std.specs.Prelude.{slice_get, nat_lt, ◌==◌}
use Rattle.std.specs.List.{list_all}
use Rattle.std.proofs.lemmas.List.{take_all, length-map}
use Rattle.std.proofs.lemmas.Nat.{mul-le, div_below, div-add-mod'}
use Rattle.std.proofs.lemmas.Option.{slice_get_within}
use Rattle.std.proofs.lemmas.Bool.{and_parts, and_from, eqb-true, eq-eqb, ltb-true, lt-ltb, not-true, not_from_false, false≢true, or_left, or_right, or_parts}
use Rattle.label.specs.Labels.{on, others, is_distinct}
use Rattle.label.specs.Oral.{AllBelow, BeginsWith, IsLabel}
use Rattle.label.proofs.Places.{count_is_product, first_label, IsOneOf, all-at, labels-are, few_children, children_stand}
use Rattle.label.proofs.Ranks.{children, others-at}
use Rattle.label.proofs.Counting.{others-on}
use Rattle.label.proofs.Bounds.{labels-few, most-fits}
use Rattle.label.specs.declared.space.Space.{Space}
use Rattle.label.specs.Space.{IsSpace, labels_of, is_label_of, begins_with}

-- Proves that there is one label of length 1.
pub count-none : (s : Space) → IsSpace s → 1 ≡ length (labels_of s 1)
count-none s i = sym (ap length (first_label s.generals s.commander s.general i.lieutenant))

-- Proves that one general more multiplies the number of labels by one factor.
pub count-more : (s : Space) → IsSpace s → (k all : ℕ) → 0 < k → all ≡ length (labels_of s k) → all * (s.generals - 1 - k) ≡ length (labels_of s (k + 1))
count-more s i zero all l e = absurd (omega arith)
count-more s i (suc k) all l e =
    let d : s.generals - 1 - suc k ≡ s.generals - 2 - k = omega arith in
    rw (add-one, d, e) (sym (count_is_product s.generals s.commander s.general k i.commander i.general i.lieutenant))

-- Proves that the number of labels has 32 bits.
pub count-fits : (s : Space) → IsSpace s → (k : ℕ) → k < 13 → length (labels_of s (k + 1)) < 2 ^ 32
count-fits s i k l = rw add-one (let few = labels-few s.generals s.commander s.general k i.generals i.commander i.general i.lieutenant in let fits = most-fits k l in omega arith)

-- Proves that the rank of a label has 32 bits.
pub rank-fits : (s : Space) → IsSpace s → (k r : ℕ) (w : List ℕ) → k < 13 → slice_get (labels_of s (k + 1)) r ≡ Some w → r < 2 ^ 32
rank-fits s i k r w l e = let h = slice_get_within (labels_of s (k + 1)) r w e in let f = count-fits s i k l in omega arith

-- Proves that the first general of a label, as a label, has rank 0.
pub first-stands : (s : Space) → IsSpace s → (w : List ℕ) → BeginsWith s.commander w → slice_get (labels_of s 1) 0 ≡ Some (take 1 w)
first-stands s i [] b = absurd b
first-stands s i (x ∷ xs) b = ap (λ ys. slice_get ys 0) (first_label s.generals s.commander s.general i.lieutenant) ∙ ap (λ y. Some (y ∷ [])) (sym b)

-- Proves that the rank of a label is found after its last general.
pub whole-stands : (s : Space) (w : List ℕ) (i r : ℕ) → length w ≤ i → i ≤ length w → slice_get (labels_of s i) r ≡ Some (take i w) → slice_get (labels_of s (length w)) r ≡ Some w
whole-stands s w i r a b e =
    let same : i ≡ length w = omega arith in
    let all : take i w ≡ w = take_all i w a in
    rw (← same) (e ∙ ap Some all)

-- Proves what the test of the first general means.
pub begins : (c : ℕ) (w : List ℕ) → begins_with c w ≡ true → BeginsWith c w
begins c [] e = cc
begins c (x ∷ xs) e = eqb-true x c e

-- Proves what the test of all generals means.
pub below : (n : ℕ) (w : List ℕ) → list_all (λ x. nat_lt x n) w ≡ true → AllBelow n w
below n [] e = tt
below n (x ∷ xs) e = let both = and_parts (nat_lt x n) (list_all (λ y. nat_lt y n) xs) e in (ltb-true x n both.0, below n xs both.1)

begins-back : (c : ℕ) (w : List ℕ) → BeginsWith c w → begins_with c w ≡ true
begins-back c [] b = absurd b
begins-back c (x ∷ xs) b = eq-eqb x c b

below-back : (n : ℕ) (w : List ℕ) → AllBelow n w → list_all (λ x. nat_lt x n) w ≡ true
below-back n [] a = refl
below-back n (x ∷ xs) a = and_from (nat_lt x n) (list_all (λ y. nat_lt y n) xs) (lt-ltb x n a.0) (below-back n xs a.1)

-- Proves that a list which passes the test is a label that the space's general is not on.
pub tested : (s : Space) (w : List ℕ) → is_distinct w ≡ true → is_label_of s w ≡ true → IsLabel s.generals s.commander w × (on w s.general ≡ false)
tested s w d e =
    let outer = and_parts (begins_with s.commander w && list_all (λ x. nat_lt x s.generals) w) (not (on w s.general)) e in
    let inner = and_parts (begins_with s.commander w) (list_all (λ x. nat_lt x s.generals) w) outer.0 in
    (record { first = begins s.commander w inner.0; below = below s.generals w inner.1; distinct = d }, not-true (on w s.general) outer.1)

-- Proves that a list which fails the test has no rank.
pub refused : (s : Space) → IsSpace s → (k r : ℕ) (w : List ℕ) → 0 < k → is_label_of s w ≡ false → slice_get (labels_of s k) r ≡ Some w → ⊥
refused s i zero r w l fails e = absurd (omega arith)
refused s i (suc k) r w l fails e =
    let one : IsOneOf s.generals s.commander s.general k w = all-at (IsOneOf s.generals s.commander s.general k) (labels_of s (suc k)) r w (labels-are s.generals s.commander s.general k i.commander i.lieutenant) e in
    let passes : is_label_of s w ≡ true = and_from (begins_with s.commander w && list_all (λ x. nat_lt x s.generals) w) (not (on w s.general)) (and_from (begins_with s.commander w) (list_all (λ x. nat_lt x s.generals) w) (begins-back s.commander w one.label.first) (below-back s.generals w one.label.below)) (not_from_false (on w s.general) one.without) in
    false≢true (sym fails ∙ passes)

-- Proves that the rank has 32 bits before the index is added.
pub row-fits : (s : Space) → IsSpace s → (k r : ℕ) (w : List ℕ) → 0 < k → k < 13 → slice_get (labels_of s k) r ≡ Some w → r * (s.generals - 1 - k) < 2 ^ 32
row-fits s i k r w p l e =
    let h : r < length (labels_of s k) = slice_get_within (labels_of s k) r w e in
    let row : length (labels_of s k) * (s.generals - 1 - k) ≡ length (labels_of s (k + 1)) = count-more s i k (length (labels_of s k)) p refl in
    let f : length (labels_of s (k + 1)) < 2 ^ 32 = count-fits s i k l in
    let m : r * (s.generals - 1 - k) ≤ length (labels_of s k) * (s.generals - 1 - k) = mul-le r (s.generals - 1 - k) (length (labels_of s k)) (s.generals - 1 - k) (omega arith) (omega arith) in
    omega arith

-- Proves that a label is not empty.
pub begun : (c : ℕ) (w : List ℕ) → BeginsWith c w → 1 ≤ length w
begun c [] b = absurd b
begun c (x ∷ xs) b = omega arith

positive : (a b r : ℕ) → r < a * b → 0 < b
positive a zero r l = absurd (let e : a * 0 ≡ 0 = omega arith in omega arith)
positive a (suc b) r l = omega arith

-- Proves that the label without its last general has the rank that the division gives.
pub parent-within : (s : Space) → IsSpace s → (size r : ℕ) → 1 < size → r < length (labels_of s size) → (0 < s.generals - size) × (r / (s.generals - size) < length (labels_of s (size - 1)))
parent-within s i size r l within =
    let row : length (labels_of s (size - 1)) * (s.generals - 1 - (size - 1)) ≡ length (labels_of s (size - 1 + 1)) = count-more s i (size - 1) (length (labels_of s (size - 1))) (omega arith) refl in
    let size_is : size - 1 + 1 ≡ size = omega arith in
    let width : s.generals - 1 - (size - 1) ≡ s.generals - size = omega arith in
    let row' : length (labels_of s (size - 1)) * (s.generals - size) ≡ length (labels_of s size) = ap (λ (w : ℕ). length (labels_of s (size - 1)) * w) (sym width) ∙ (row ∙ ap (λ (k : ℕ). length (labels_of s k)) size_is) in
    let some : 0 < s.generals - size = positive (length (labels_of s (size - 1))) (s.generals - size) r (omega arith) in
    (some, div_below r (s.generals - size) (length (labels_of s (size - 1))) some (omega arith))

-- Proves that this label is one of the space's labels.
one_of : (s : Space) → IsSpace s → (k r : ℕ) (w : List ℕ) → 0 < k → slice_get (labels_of s k) r ≡ Some w → IsOneOf s.generals s.commander s.general (k - 1) w
one_of s i zero r w l e = absurd (omega arith)
one_of s i (suc k) r w l e = rw sub-one (all-at (IsOneOf s.generals s.commander s.general k) (labels_of s (suc k)) r w (labels-are s.generals s.commander s.general k i.commander i.lieutenant) e)

-- Proves that the remainder is an index among the generals who may follow.
pub place-within : (s : Space) → IsSpace s → (size q t : ℕ) (w : List ℕ) → 1 < size → slice_get (labels_of s (size - 1)) q ≡ Some w → t < s.generals - size → t < length (others s.generals (s.general ∷ w))
place-within s i size q t w l e h =
    let few : length (children s.generals s.general w) ≡ s.generals - 2 - (size - 1 - 1) = few_children s.generals s.commander s.general (size - 1 - 1) w i.general (one_of s i (size - 1) q w (omega arith) e) in
    let same : length (children s.generals s.general w) ≡ length (others s.generals (s.general ∷ w)) = length-map (others s.generals (s.general ∷ w)) (λ j. w ++ j ∷ []) in
    omega arith

-- Proves that this label, extended by the general with that index, is the label with the rank.
pub rejoined : (s : Space) → IsSpace s → (size r j : ℕ) (w : List ℕ) → 1 < size → 0 < s.generals - size → slice_get (labels_of s (size - 1)) (r / (s.generals - size)) ≡ Some w → slice_get (others s.generals (s.general ∷ w)) (r % (s.generals - size)) ≡ Some j → slice_get (labels_of s size) r ≡ Some (w ++ j ∷ [])
rejoined s i zero r j w l p e o = absurd (omega arith)
rejoined s i (suc zero) r j w l p e o = absurd (omega arith)
rejoined s i (suc (suc k)) r j w l p e o =
    let width : s.generals - suc (suc k) ≡ s.generals - 2 - k = omega arith in
    let less : suc (suc k) - 1 ≡ suc k = omega arith in
    let whole : r / (s.generals - 2 - k) * (s.generals - 2 - k) + r % (s.generals - 2 - k) ≡ r = div-add-mod' r (s.generals - 2 - k) in
    let e' : slice_get (labels_of s (suc k)) (r / (s.generals - 2 - k)) ≡ Some w = rw (width, less) at e in
    let o' : slice_get (others s.generals (s.general ∷ w)) (r % (s.generals - 2 - k)) ≡ Some j = rw width at o in
    ap (slice_get (labels_of s (suc (suc k)))) (sym whole) ∙ children_stand s.generals s.commander s.general k (r / (s.generals - 2 - k)) (r % (s.generals - 2 - k)) j w i.commander i.general i.lieutenant e' o'

-- Proves that a general read from a list is on the list.
pub on-get : (xs : List ℕ) (t j : ℕ) → slice_get xs t ≡ Some j → on xs j ≡ true
on-get [] t j e = cc
on-get (x ∷ xs) zero j e = or_left (x == j) (on xs j) (eq-eqb x j cc)
on-get (x ∷ xs) (suc t) j e = or_right (x == j) (on xs j) (on-get xs t j e)

-- Proves that a general who is not on the label is among the others.
pub among : (n : ℕ) (w : List ℕ) (p : ℕ) → p < n → on w p ≡ false → on (others n w) p ≡ true
among n w p l off = on-get (others n w) (length (others p w)) p (others-at n w p l off)

-- Proves that a general who may follow is new to the label.
pub general-fits : (n p : ℕ) (w : List ℕ) (t j : ℕ) → slice_get (others n (p ∷ w)) t ≡ Some j → (j < n) × (on w j ≡ false)
general-fits n p w t j e =
    let at = others-on n (p ∷ w) j (on-get (others n (p ∷ w)) t j e) in
    (at.0, (or_parts (p == j) (on w j) at.1).1)

-- Proves which label of length 1 there is.
pub one-stands : (s : Space) → IsSpace s → (size r : ℕ) → size ≡ 1 → r < length (labels_of s size) → slice_get (labels_of s size) r ≡ Some (s.commander ∷ [])
one-stands s i size r e l =
    let l' : r < length (labels_of s 1) = rw e at l in
    let only : labels_of s 1 ≡ (s.commander ∷ []) ∷ [] = first_label s.generals s.commander s.general i.lieutenant in
    let first : r ≡ 0 = omega (arith, ap length only) in
    rw (e, first) (ap (λ ys. slice_get ys 0) only)
