-- The greatest number of labels, and the index of a longer label.
use Rattle.std.proofs.Common.{ℕ, zero, suc, ◌+◌, ◌-◌, ◌*◌, ◌^◌, ◌<◌, ◌≤◌, ◌≡◌, ◌≢◌, Bool, true, false, not, cond, ◌&&◌, List, [], ◌∷◌, ◌++◌, length, refl, sym, ap, ◌∙◌, arith, ltb, length-append, inl, inr, add-one, Some, get_or, take}
use Rattle.std.specs.Prelude.{slice_get, ◌==◌}
use Rattle.std.proofs.lemmas.List.{take_more}
use Rattle.std.proofs.lemmas.Bool.{ltb-true, cases_eq, and_parts, cases_Bool, or_left, or_right, or_from, eq-eqb, ne_eqb, not-true, false≢true}
use Rattle.std.proofs.lemmas.Nat.{mul-le}
use Rattle.label.specs.Labels.{on, others, is_distinct, labels}
use Rattle.label.specs.Oral.{AllBelow}
use Rattle.label.proofs.Ranks.{others-at, others-more_no, others-more_yes}
use Rattle.label.proofs.Places.{first_label, count_is_product, children_stand}

-- Returns the greatest number of labels of k + 1 generals.
abbrev pub most : ℕ → ℕ
most zero = 1
most (suc k) = most k * (11 - k)

abbrev all_fit : ℕ → Bool
all_fit zero = true
all_fit (suc k) = ltb (most k) (2 ^ 32) && all_fit k

fit_below : (m k : ℕ) → all_fit m ≡ true → k < m → most k < 2 ^ 32
fit_below zero k a l = absurd (omega arith)
fit_below (suc m) k a l =
    let both = and_parts (ltb (most m) (2 ^ 32)) (all_fit m) a in
    elim (cases_eq k m) [
      | inl same ↦ rw same (ltb-true (most m) (2 ^ 32) both.0)
      | inr ne ↦ fit_below m k both.1 (omega arith)
    ]

-- Proves that this number has 32 bits.
pub most-fits : (k : ℕ) → k < 13 → most k < 2 ^ 32
most-fits k l = fit_below 13 k refl l

-- Proves that there are at most as many labels.
pub labels-few : (n c p k : ℕ) → n ≤ 13 → c < n → p < n → p ≢ c → length (labels n c p (suc k)) ≤ most k
labels-few n c p zero short inside within ne = rw (first_label n c p ne) (omega arith)
labels-few n c p (suc k) short inside within ne =
    rw (count_is_product n c p k inside within ne) (mul-le (length (labels n c p (suc k))) (n - 2 - k) (most k) (11 - k) (labels-few n c p k short inside within ne) (omega arith))

-- Proves that one more general is not on the list, or is on it.
pub others_length_more : (v : List ℕ) (j : ℕ) → length (others (j + 1) v) ≡ length (others j v) + cond (on v j) 0 1
others_length_more v j = rw add-one (elim (cases_Bool (on v j)) [
  | inl it ↦ rw (others-more_no v j it, it) (omega arith)
  | inr it ↦ rw (others-more_yes v j it, it) (omega (arith, length-append (others j v) (j ∷ [])))
])

-- Proves which general has a given index among those not on a list.
pub others_here : (n : ℕ) (v : List ℕ) (t j : ℕ) → j < n → on v j ≡ false → t ≡ length (others j v) → slice_get (others n v) t ≡ Some j
others_here n v t j l o e = rw e (others-at n v j l o)

-- Proves that the general at each index of a label exists.
pub below-at : (n : ℕ) (w : List ℕ) (i : ℕ) → AllBelow n w → i < length w → get_or w i 0 < n
below-at n [] i b l = absurd (omega arith)
below-at n (x ∷ xs) zero b l = b.0
below-at n (x ∷ xs) (suc i) b l = below-at n xs i b.1 (omega arith)

-- Proves that a general read from a list is on the list.
pub on-get_or : (xs : List ℕ) (i : ℕ) → i < length xs → on xs (get_or xs i 0) ≡ true
on-get_or [] i l = absurd (omega arith)
on-get_or (x ∷ xs) zero l = or_left (x == x) (on xs x) (eq-eqb x x refl)
on-get_or (x ∷ xs) (suc i) l = or_right (x == get_or xs i 0) (on xs (get_or xs i 0)) (on-get_or xs i (omega arith))

apart-from : (w : List ℕ) (p j : ℕ) → on w p ≡ false → on w j ≡ true → p ≢ j
apart-from w p j o i e = false≢true (sym o ∙ (ap (on w) e ∙ i))

distinct-at : (w : List ℕ) (i : ℕ) → is_distinct w ≡ true → i < length w → on (take i w) (get_or w i 0) ≡ false
distinct-at [] i d l = absurd (omega arith)
distinct-at (x ∷ xs) zero d l = refl
distinct-at (x ∷ xs) (suc i) d l =
    let both = and_parts (not (on xs x)) (is_distinct xs) d in
    or_from (x == get_or xs i 0) (on (take i xs) (get_or xs i 0))
    (ne_eqb x (get_or xs i 0) (apart-from xs x (get_or xs i 0) (not-true (on xs x) both.0) (on-get_or xs i (omega arith))))
    (distinct-at xs i both.1 (omega arith))

-- Proves the rank of a label's part with one general more.
pub rank-more : (n c p : ℕ) (w : List ℕ) → c < n → p < n → p ≢ c → AllBelow n w → is_distinct w ≡ true → on w p ≡ false → (i r : ℕ) → 0 < i → i < length w → slice_get (labels n c p i) r ≡ Some (take i w)
    → slice_get (labels n c p (i + 1)) (r * (n - 1 - i) + length (others (get_or w i 0) (p ∷ take i w))) ≡ Some (take (i + 1) w)
rank-more n c p w inside within ne b d o zero r some l e = absurd (omega arith)
rank-more n c p w inside within ne b d o (suc k) r some l e =
    let j : ℕ = get_or w (suc k) 0 in
    let width : n - 1 - suc k ≡ n - 2 - k = omega arith in
    let out : on (p ∷ take (suc k) w) (get_or w (suc k) 0) ≡ false = or_from (p == get_or w (suc k) 0) (on (take (suc k) w) (get_or w (suc k) 0)) (ne_eqb p (get_or w (suc k) 0) (apart-from w p (get_or w (suc k) 0) o (on-get_or w (suc k) l))) (distinct-at w (suc k) d l) in
    let longer : take (suc k + 1) w ≡ take (suc k) w ++ get_or w (suc k) 0 ∷ [] = take_more w (suc k) 0 l in
    rw (longer, width, add-one) (children_stand n c p k r (length (others (get_or w (suc k) 0) (p ∷ take (suc k) w))) (get_or w (suc k) 0) (take (suc k) w) inside within ne e (others-at n (p ∷ take (suc k) w) (get_or w (suc k) 0) (below-at n w (suc k) b l) out))
