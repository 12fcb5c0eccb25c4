-- Membership in labels, and the numbers of generals who are not on a label.
use Rattle.std.proofs.Common.{ℕ, zero, suc, ◌+◌, ◌<◌, ◌≤◌, ◌≡◌, ◌≢◌, Bool, true, false, not, cond, ◌||◌, List, [], ◌∷◌, ◌++◌, map, length, refl, sym, ap, ◌∙◌, arith, inl, inr}
use Rattle.std.specs.Prelude.{filter, count_by, sum_by, ◌==◌}
use Rattle.std.specs.List.{range_with_len}
use Rattle.std.proofs.lemmas.Bool.Decides.{nat_tests, eqb_tells}
use Rattle.std.proofs.lemmas.Bool.{eqb-true, cases_Bool, false≢true, or_parts, or_from, or_cases, or_left, or_right, and_parts, and_from, not-true, not_from_false, ne_eqb, eq-eqb}
use Rattle.std.proofs.lemmas.List.Sums.{sum_by-cons}
use Rattle.label.specs.Labels.{on, is_distinct, generals, others}

-- Proves who is on a list with one more general at its end.
pub on-push : (w : List ℕ) (j x : ℕ) → on (w ++ j ∷ []) x ≡ (on w x || j == x)
on-push [] j x = grind (arith, nat_tests)
on-push (y ∷ ys) j x = grind (arith, nat_tests, on-push ys j x)

-- Proves that a new general keeps the generals of a list different.
pub distinct-push : (w : List ℕ) (j : ℕ) → is_distinct w ≡ true → on w j ≡ false → is_distinct (w ++ j ∷ []) ≡ true
distinct-push [] j d a = refl
distinct-push (y ∷ ys) j d a = grind (arith, nat_tests, distinct-push ys j, on-push ys j y)

-- Returns the sum of h over the elements of xs that are not in w.
abbrev pub rest_sum : (ℕ → ℕ) → List ℕ → List ℕ → ℕ
rest_sum h w xs = sum_by h (filter (λ j. not (on w j)) xs)

-- Proves how one more element of xs changes the sum.
pub rest_sum-cons : (h : ℕ → ℕ) (w : List ℕ) (x : ℕ) (xs : List ℕ) → rest_sum h w (x ∷ xs) ≡ cond (on w x) 0 (h x) + rest_sum h w xs
rest_sum-cons h w x xs = elim (on w x) as (λ b. sum_by h (cond (not b) (x ∷ filter (λ j. not (on w j)) xs) (filter (λ j. not (on w j)) xs)) ≡ cond b 0 (h x) + rest_sum h w xs) [ true ↦ omega arith | false ↦ sum_by-cons h x (filter (λ j. not (on w j)) xs) ]

-- Proves that a general who is not in xs changes nothing.
pub rest_sum-absent : (h : ℕ → ℕ) (w : List ℕ) (j : ℕ) (xs : List ℕ) → on xs j ≡ false → rest_sum h (w ++ j ∷ []) xs ≡ rest_sum h w xs
rest_sum-absent h w j [] a = refl
rest_sum-absent h w j (x ∷ xs) a =
    let ih : rest_sum h (w ++ j ∷ []) xs ≡ rest_sum h w xs = rest_sum-absent h w j xs (or_parts (x == j) (on xs j) a).1 in
    let e : on (w ++ j ∷ []) x ≡ on w x = grind (arith, nat_tests, on-push w j x) in
    rw (rest_sum-cons h (w ++ j ∷ []) x xs, rest_sum-cons h w x xs, ih, e)

split_here : (h : ℕ → ℕ) (w : List ℕ) (j x : ℕ) (xs : List ℕ) → is_distinct (x ∷ xs) ≡ true → on w j ≡ false → x ≡ j → rest_sum h w (x ∷ xs) ≡ h j + rest_sum h (w ++ j ∷ []) (x ∷ xs)
split_here h w j x xs d a e =
    let lacks : on xs x ≡ false = not-true (on xs x) (and_parts (not (on xs x)) (is_distinct xs) d).0 in
    let lacks_j : on xs j ≡ false = rw e at lacks in
    let same : rest_sum h (w ++ j ∷ []) xs ≡ rest_sum h w xs = rest_sum-absent h w j xs lacks_j in
    let out : on w x ≡ false = rw e a in
    let inside : on (w ++ j ∷ []) x ≡ true = grind (arith, nat_tests, on-push w j x) in
    let hx : h x ≡ h j = ap h e in
    rw (rest_sum-cons h w x xs, rest_sum-cons h (w ++ j ∷ []) x xs, out, inside) (omega arith)

-- Proves that a general who is in xs once makes the difference.
pub rest_sum-split : (h : ℕ → ℕ) (w : List ℕ) (j : ℕ) (xs : List ℕ) → is_distinct xs ≡ true → on xs j ≡ true → on w j ≡ false → rest_sum h w xs ≡ h j + rest_sum h (w ++ j ∷ []) xs
rest_sum-split h w j [] d i a = cc
rest_sum-split h w j (x ∷ xs) d i a =
    elim (eqb_tells x j) [
      | inl same ↦ split_here h w j x xs d a same.1
      | inr apart ↦
          let there : on xs j ≡ true = grind (arith, nat_tests) in
          let ih : rest_sum h w xs ≡ h j + rest_sum h (w ++ j ∷ []) xs = rest_sum-split h w j xs (and_parts (not (on xs x)) (is_distinct xs) d).1 there a in
          let e : on (w ++ j ∷ []) x ≡ on w x = grind (arith, nat_tests, on-push w j x) in
          rw (rest_sum-cons h w x xs, rest_sum-cons h (w ++ j ∷ []) x xs, e) (omega arith)
    ]

-- Proves that a range of numbers does not contain lower numbers.
pub range-below : (a n j : ℕ) → j < a → on (range_with_len a n) j ≡ false
range-below a zero j l = refl
range-below a (suc n) j l = or_from (a == j) (on (range_with_len (a + 1) n) j) (ne_eqb a j (λ e. omega arith)) (range-below (a + 1) n j (omega arith))

-- Proves that the numbers of a range are all different.
pub range-distinct : (a n : ℕ) → is_distinct (range_with_len a n) ≡ true
range-distinct a zero = refl
range-distinct a (suc n) = and_from (not (on (range_with_len (a + 1) n) a)) (is_distinct (range_with_len (a + 1) n)) (not_from_false (on (range_with_len (a + 1) n) a) (range-below (a + 1) n a (omega arith))) (range-distinct (a + 1) n)

-- Proves that a range contains all its numbers.
pub range-on : (a n j : ℕ) → a ≤ j → j < a + n → on (range_with_len a n) j ≡ true
range-on a zero j l h = absurd (omega arith)
range-on a (suc n) j l h =
    elim (eqb_tells a j) [
      | inl same ↦ or_left (a == j) (on (range_with_len (a + 1) n) j) same.0
      | inr apart ↦ or_right (a == j) (on (range_with_len (a + 1) n) j) (range-on (a + 1) n j (let ne : a ≢ j = apart.1 in omega arith) (omega arith))
    ]

-- Proves that a range contains no higher numbers.
pub range-on_within : (a n j : ℕ) → on (range_with_len a n) j ≡ true → j < a + n
range-on_within a zero j h = cc
range-on_within a (suc n) j h =
    elim (or_cases (a == j) (on (range_with_len (a + 1) n) j) h) [
      | inl here ↦ let e : a ≡ j = eqb-true a j here in omega arith
      | inr there ↦ omega (arith, range-on_within (a + 1) n j there)
    ]

on-filter_more : (t : ℕ → Bool) (x : ℕ) (xs : List ℕ) (j : ℕ) → (on (filter t xs) j ≡ true → (on xs j ≡ true) × (t j ≡ true)) → (b : Bool) → t x ≡ b → on (cond b (x ∷ filter t xs) (filter t xs)) j ≡ true → (on (x ∷ xs) j ≡ true) × (t j ≡ true)
on-filter_more t x xs j ih true e k =
    elim (or_cases (x == j) (on (filter t xs) j) k) [
      | inl here ↦ (or_left (x == j) (on xs j) here, let q : x ≡ j = eqb-true x j here in rw q at e)
      | inr there ↦ (or_right (x == j) (on xs j) (ih there).0, (ih there).1)
    ]
on-filter_more t x xs j ih false e k = (or_right (x == j) (on xs j) (ih k).0, (ih k).1)

-- Proves what is known of an element that passed a filter.
pub on-filter : (t : ℕ → Bool) (xs : List ℕ) (j : ℕ) → on (filter t xs) j ≡ true → (on xs j ≡ true) × (t j ≡ true)
on-filter t [] j h = cc
on-filter t (x ∷ xs) j h = on-filter_more t x xs j (on-filter t xs j) (t x) refl h

-- Proves that a filter keeps the generals of a list different.
pub filter-distinct : (t : ℕ → Bool) (xs : List ℕ) → is_distinct xs ≡ true → is_distinct (filter t xs) ≡ true
filter-distinct t [] d = refl
filter-distinct t (x ∷ xs) d =
    let both = and_parts (not (on xs x)) (is_distinct xs) d in
    let rest : is_distinct (filter t xs) ≡ true = filter-distinct t xs both.1 in
    let out : not (on (filter t xs) x) ≡ true = not_from_false (on (filter t xs) x) (filter-absent t xs x (not-true (on xs x) both.0)) in
    elim (t x) as (λ b. is_distinct (cond b (x ∷ filter t xs) (filter t xs)) ≡ true) [
      | true ↦ and_from (not (on (filter t xs) x)) (is_distinct (filter t xs)) out rest
      | false ↦ rest
    ]
  where
    filter-absent : (t : ℕ → Bool) (xs : List ℕ) (x : ℕ) → on xs x ≡ false → on (filter t xs) x ≡ false
    filter-absent t xs x a =
        elim (cases_Bool (on (filter t xs) x)) [
          | inl there ↦ absurd (false≢true (sym a ∙ (on-filter t xs x there).0))
          | inr out ↦ out
        ]

pub others-distinct : (n : ℕ) (w : List ℕ) → is_distinct (others n w) ≡ true
others-distinct n w = filter-distinct (λ j. not (on w j)) (generals n) (range-distinct 0 n)

-- Proves that the others are generals who are not on the label.
pub others-on : (n : ℕ) (w : List ℕ) (j : ℕ) → on (others n w) j ≡ true → (j < n) × (on w j ≡ false)
others-on n w j h =
    let both = on-filter (λ i. not (on w i)) (generals n) j h in
    (omega (arith, range-on_within 0 n j both.0), not-true (on w j) both.1)

-- Proves that a general who is not on the label is one of the others, and the only one lost if he is appended.
pub others-split : (h : ℕ → ℕ) (n : ℕ) (w : List ℕ) (j : ℕ) → j < n → on w j ≡ false → sum_by h (others n w) ≡ h j + sum_by h (others n (w ++ j ∷ []))
others-split h n w j l a = rest_sum-split h w j (generals n) (range-distinct 0 n) (range-on 0 n j (omega arith) (omega arith)) a

-- Proves that the length of a list is a sum of ones.
pub length-sum : (xs : List ℕ) → length xs ≡ sum_by (λ x. 1) xs
length-sum [] = refl
length-sum (x ∷ xs) = omega (arith, sum_by-cons (λ (y : ℕ). 1) x xs, length-sum xs)

-- Proves that there is one general fewer who is not on the longer label.
pub others-length : (n : ℕ) (w : List ℕ) (j : ℕ) → j < n → on w j ≡ false → length (others n w) ≡ 1 + length (others n (w ++ j ∷ []))
others-length n w j l a = rw (length-sum (others n w), length-sum (others n (w ++ j ∷ []))) (others-split (λ x. 1) n w j l a)

-- Proves that the elements that pass a test and those that have the value v are at least as many as all.
pub majority_counts : (t : ℕ → Bool) (F : ℕ → ℕ) (v : ℕ) (xs : List ℕ) → ((j : ℕ) → on xs j ≡ true → t j ≡ false → F j ≡ v) → length xs ≤ count_by (λ x. x == v) (map F xs) + count_by t xs
majority_counts t F v [] says = omega arith
majority_counts t F v (x ∷ xs) says =
    let ih : length xs ≤ count_by (λ y. y == v) (map F xs) + count_by t xs = majority_counts t F v xs (λ j i q. says j (or_right (x == j) (on xs j) i) q) in
    let here : t x ≡ false → F x ≡ v = says x (or_left (x == x) (on xs x) (eq-eqb x x refl)) in
    let one : 1 ≤ cond (F x == v) 1 0 + cond (t x) 1 0 = grind (arith, nat_tests) in
    rw (sum_by-cons (λ y. cond (y == v) 1 0) (F x) (map F xs), sum_by-cons (λ y. cond (t y) 1 0) x xs) (omega arith)

-- Proves that functions which agree on the elements of a list give equal lists.
pub map_agree : (F G : ℕ → ℕ) (xs : List ℕ) → ((j : ℕ) → on xs j ≡ true → F j ≡ G j) → map F xs ≡ map G xs
map_agree F G [] says = refl
map_agree F G (x ∷ xs) says =
    let here : F x ≡ G x = says x (or_left (x == x) (on xs x) (eq-eqb x x refl)) in
    let ih : map F xs ≡ map G xs = map_agree F G xs (λ j i. says j (or_right (x == j) (on xs j) i)) in
    cc
