-- If not all rows of a list are drawn: no honest row is drawn while a lie is left out, and each liar has a drawn row.
use Rattle.std.proofs.Common.{ℕ, zero, suc, ◌+◌, ◌-◌, ◌<◌, ◌≤◌, ◌≡◌, Bool, true, false, not, ◌&&◌, ◌||◌, List, [], ◌∷◌, ◌++◌, length, map, refl, sym, ap, ◌∙◌, append_assoc, arith, inl, inr}
use Rattle.std.proofs.lemmas.Bool.{and_from, cases_Bool, eq-eqb, eqb-true, leb-true, not_from_false, or_cases, or_left, or_right, true≢false}
use Rattle.std.proofs.lemmas.List.{drop_all, take_all}
use Rattle.std.proofs.lemmas.List.Folds.{list_any-append}
use Rattle.std.specs.List.{AllByRecursion, list_any}
use Rattle.std.specs.Prelude.{◌==◌, nat_le, drop, take, filter, if◌then◌else◌}
use Rattle.label.specs.Labels.{is_distinct, on}
use Rattle.label.specs.Oral.{AllBelow}
use Rattle.label.proofs.Places.{all-append}
use Rattle.label.proofs.Ranks.{others-count}
use Rattle.show_diagram.specs.Order.{arranged, firsts, is_by_one, lies_first, most_rows, repeats}
use Rattle.show_diagram.proofs.OrderLemmas.{all_filter, all_firsts, all_passed, all_repeats, any_of, firsts_any}

-- ---- no more senders than generals

-- Proves that a sender of an earlier element is not among the senders of the first elements.
not_before : {A : Type 0} (teller : A → ℕ) (j : ℕ) (before xs : List A) → any_of teller j before ≡ true → on (map teller (firsts (is_by_one teller) before xs)) j ≡ false
unfolding firsts
not_before teller j before [] there = refl
not_before {A} teller j before (x ∷ xs) there =
    let p : A → Bool = λ z. j == teller z in
    by_case (list_any (is_by_one teller x) before) refl
    (not_before teller j (before ++ x ∷ []) xs (list_any-append p before (x ∷ []) ∙ or_left (list_any p before) (list_any p (x ∷ [])) there))
  where
    by_case : (b : Bool) → list_any (is_by_one teller x) before ≡ b → on (map teller (firsts (is_by_one teller) (before ++ x ∷ []) xs)) j ≡ false
        → on (map teller ((if b then [] else x ∷ []) ++ firsts (is_by_one teller) (before ++ x ∷ []) xs)) j ≡ false
    by_case true e behind = behind
    by_case false e behind =
        let apart : (teller x == j) ≡ false = elim (cases_Bool (teller x == j)) [
          | inl same ↦ absurd (true≢false (sym there ∙ (ap (λ (i : ℕ). any_of teller i before) (sym (eqb-true (teller x) j same)) ∙ e)))
          | inr other ↦ other
        ] in
        ap (λ b. b || on (map teller (firsts (is_by_one teller) (before ++ x ∷ []) xs)) j) apart ∙ behind

or_yes : (b : Bool) → (b || true) ≡ true
or_yes true = refl
or_yes false = refl

tellers_distinct : {A : Type 0} (teller : A → ℕ) (before xs : List A) → is_distinct (map teller (firsts (is_by_one teller) before xs)) ≡ true
unfolding firsts
tellers_distinct teller before [] = refl
tellers_distinct teller before (x ∷ xs) =
    let his : list_any (is_by_one teller x) (before ++ x ∷ []) ≡ true =
    list_any-append (is_by_one teller x) before (x ∷ []) ∙ (ap (λ b. list_any (is_by_one teller x) before || (b || false)) (eq-eqb (teller x) (teller x) refl) ∙ or_yes (list_any (is_by_one teller x) before)) in
    by_case (list_any (is_by_one teller x) before) (not_before teller (teller x) (before ++ x ∷ []) xs his) (tellers_distinct teller (before ++ x ∷ []) xs)
  where
    by_case : (b : Bool) → on (map teller (firsts (is_by_one teller) (before ++ x ∷ []) xs)) (teller x) ≡ false → is_distinct (map teller (firsts (is_by_one teller) (before ++ x ∷ []) xs)) ≡ true
        → is_distinct (map teller ((if b then [] else x ∷ []) ++ firsts (is_by_one teller) (before ++ x ∷ []) xs)) ≡ true
    by_case true off behind = behind
    by_case false off behind =
        let rest : List ℕ = map teller (firsts (is_by_one teller) (before ++ x ∷ []) xs) in
        and_from (not (on rest (teller x))) (is_distinct rest) (not_from_false (on rest (teller x)) off) behind

below_all : {A : Type 0} (teller : A → ℕ) (n : ℕ) (xs : List A) → AllByRecursion (λ x. teller x < n) xs → AllBelow n (map teller xs)
below_all teller n [] a = tt
below_all teller n (x ∷ xs) a = (a.0, below_all teller n xs a.1)

length_tellers : {A : Type 0} (teller : A → ℕ) (xs : List A) → length (map teller xs) ≡ length xs
length_tellers teller [] = refl
length_tellers teller (x ∷ xs) = ap suc (length_tellers teller xs)

few_firsts : {A : Type 0} (teller : A → ℕ) (n : ℕ) (xs : List A) → AllByRecursion (λ x. teller x < n) xs → length (firsts (is_by_one teller) [] xs) ≤ n
few_firsts {A} teller n xs a =
    let first : List A = firsts (is_by_one teller) [] xs in
    let sum = others-count n (map teller first) (tellers_distinct teller [] xs) (below_all teller n first (all_firsts (λ x. teller x < n) (is_by_one teller) [] xs a)) in
    let size = length_tellers teller first in
    omega arith

-- ---- lies first

-- Proves that if an element of the first kind is not among the first k elements, the first k are all of this kind.
sorted_ahead : {A : Type 0} (lie : A → Bool) (xs ys : List A) (k : ℕ) → AllByRecursion (λ x. lie x ≡ true) xs → AllByRecursion (λ x. not (lie x) ≡ true) ys
    → list_any lie (drop k (xs ++ ys)) ≡ true → AllByRecursion (λ x. lie x ≡ true) (take k (xs ++ ys))
sorted_ahead lie xs ys zero a b left = tt
sorted_ahead {A} lie [] ys (suc k) a b left = absurd (true≢false (sym left ∙ honest (drop (suc k) ys) (all_drop (suc k) ys b)))
  where
    no : (d : Bool) → not d ≡ true → d ≡ false
    no true e = absurd cc
    no false e = refl

    honest : (zs : List A) → AllByRecursion (λ x. not (lie x) ≡ true) zs → list_any lie zs ≡ false
    honest [] c = refl
    honest (z ∷ zs) c = ap (λ d. d || list_any lie zs) (no (lie z) c.0) ∙ honest zs c.1

    all_drop : (i : ℕ) (zs : List A) → AllByRecursion (λ x. not (lie x) ≡ true) zs → AllByRecursion (λ x. not (lie x) ≡ true) (drop i zs)
    all_drop zero zs c = c
    all_drop (suc i) [] c = tt
    all_drop (suc i) (z ∷ zs) c = all_drop i zs c.1
sorted_ahead lie (x ∷ xs) ys (suc k) a b left = (a.0, sorted_ahead lie xs ys k a.1 b left)

pub no_honest_before : {A : Type 0} (lie : A → Bool) (teller : A → ℕ) (list : List A) → list_any lie (drop most_rows (arranged lie teller list)) ≡ true
    → AllByRecursion (λ x. lie x ≡ true) (take most_rows (arranged lie teller list))
no_honest_before lie teller list left = by_case (nat_le (length list) most_rows) refl left
  where
    by_case : (b : Bool) → nat_le (length list) most_rows ≡ b → list_any lie (drop most_rows (if b then list else lies_first lie teller list)) ≡ true
        → AllByRecursion (λ x. lie x ≡ true) (take most_rows (if b then list else lies_first lie teller list))
    by_case true e here =
        let none : drop most_rows list ≡ [] = drop_all most_rows list (leb-true (length list) most_rows e) in
        absurd (true≢false (sym here ∙ ap (list_any lie) none))
    by_case false e here =
        let his : AllByRecursion (λ x. lie x ≡ true) (filter lie list) = all_passed lie list in
        sorted_ahead lie (firsts (is_by_one teller) [] (filter lie list) ++ repeats (is_by_one teller) [] (filter lie list)) (filter (λ x. not (lie x)) list) most_rows
        (all-append (λ x. lie x ≡ true) (firsts (is_by_one teller) [] (filter lie list)) (repeats (is_by_one teller) [] (filter lie list))
        (all_firsts (λ x. lie x ≡ true) (is_by_one teller) [] (filter lie list) his) (all_repeats (λ x. lie x ≡ true) (is_by_one teller) [] (filter lie list) his))
        (all_passed (λ x. not (lie x)) list) here

-- ---- each liar

-- Returns whether an element is a lie of sender j.
abbrev pub is_lie_of : {A : Type 0} → (A → Bool) → (A → ℕ) → ℕ → A → Bool
is_lie_of lie teller j x = lie x && teller x == j

same_number : (a b : ℕ) → (a == b) ≡ (b == a)
same_number a b = elim (cases_Bool (a == b)) [
  | inl same ↦ same ∙ sym (eq-eqb b a (sym (eqb-true a b same)))
  | inr other ↦ elim (cases_Bool (b == a)) [
    | inl same ↦ absurd (true≢false (sym (eq-eqb a b (sym (eqb-true b a same))) ∙ other))
    | inr apart ↦ other ∙ sym apart
  ]
]

-- Proves that the list has a lie of j exactly if one of its lies is from j.
lie_any : {A : Type 0} (lie : A → Bool) (teller : A → ℕ) (j : ℕ) (xs : List A) → list_any (is_lie_of lie teller j) xs ≡ any_of teller j (filter lie xs)
lie_any lie teller j [] = refl
lie_any lie teller j (x ∷ xs) = by_case (lie x) (lie_any lie teller j xs)
  where
    by_case : (b : Bool) → list_any (is_lie_of lie teller j) xs ≡ any_of teller j (filter lie xs)
        → ((b && teller x == j) || list_any (is_lie_of lie teller j) xs) ≡ any_of teller j (if b then x ∷ filter lie xs else filter lie xs)
    by_case true rest = ap (λ c. c || list_any (is_lie_of lie teller j) xs) (same_number (teller x) j) ∙ ap (λ c. (j == teller x) || c) rest
    by_case false rest = rest

lies_of_lies : {A : Type 0} (lie : A → Bool) (teller : A → ℕ) (j : ℕ) (xs : List A) → AllByRecursion (λ x. lie x ≡ true) xs → any_of teller j xs ≡ true → list_any (is_lie_of lie teller j) xs ≡ true
lies_of_lies lie teller j [] a there = there
lies_of_lies lie teller j (x ∷ xs) a there = elim (or_cases (j == teller x) (any_of teller j xs) there) [
  | inl here ↦
      or_left (is_lie_of lie teller j x) (list_any (is_lie_of lie teller j) xs) (and_from (lie x) (teller x == j) a.0 (eq-eqb (teller x) j (sym (eqb-true j (teller x) here))))
  | inr later ↦ or_right (is_lie_of lie teller j x) (list_any (is_lie_of lie teller j) xs) (lies_of_lies lie teller j xs a.1 later)
]

take_ahead : {A : Type 0} (k : ℕ) (xs ys : List A) → length xs ≤ k → take k (xs ++ ys) ≡ xs ++ take (k - length xs) ys
take_ahead k [] ys few = ap (λ (i : ℕ). take i ys) (let e : k ≡ k - 0 = omega arith in e)
take_ahead zero (x ∷ xs) ys few = absurd (omega arith)
take_ahead (suc k) (x ∷ xs) ys few = ap (λ zs. x ∷ zs) (take_ahead k xs ys (omega arith) ∙ ap (λ (i : ℕ). xs ++ take i ys) (let e : k - length xs ≡ suc k - suc (length xs) = omega arith in e))

pub liar_before : {A : Type 0} (lie : A → Bool) (teller : A → ℕ) (n j : ℕ) (list : List A) → n ≤ most_rows → AllByRecursion (λ x. teller x < n) list
    → list_any (is_lie_of lie teller j) list ≡ true → list_any (is_lie_of lie teller j) (take most_rows (arranged lie teller list)) ≡ true
liar_before {A} lie teller n j list few below there = by_case (nat_le (length list) most_rows) refl
  where
    first : List A
    first = firsts (is_by_one teller) [] (filter lie list)

    by_case : (b : Bool) → nat_le (length list) most_rows ≡ b → list_any (is_lie_of lie teller j) (take most_rows (if b then list else lies_first lie teller list)) ≡ true
    by_case true e = ap (list_any (is_lie_of lie teller j)) (take_all most_rows list (leb-true (length list) most_rows e)) ∙ there
    by_case false e =
        let f : A → Bool = is_lie_of lie teller j in
        let his : AllByRecursion (λ y. lie y ≡ true) first = all_firsts (λ y. lie y ≡ true) (is_by_one teller) [] (filter lie list) (all_passed lie list) in
        let any : any_of teller j first ≡ true = firsts_any teller j (filter lie list) ∙ (sym (lie_any lie teller j list) ∙ there) in
        let others : List A = repeats (is_by_one teller) [] (filter lie list) in
        let honest : List A = filter (λ x. not (lie x)) list in
        let short = few_firsts teller n (filter lie list) (all_filter (λ y. teller y < n) lie list below) in
        ap (λ xs. list_any f (take most_rows xs)) (append_assoc first others honest)
        ∙ (ap (list_any f) (take_ahead most_rows first (others ++ honest) (omega arith))
        ∙ (list_any-append f first (take (most_rows - length first) (others ++ honest))
        ∙ or_left (list_any f first) (list_any f (take (most_rows - length first) (others ++ honest))) (lies_of_lies lie teller j first his any)))
