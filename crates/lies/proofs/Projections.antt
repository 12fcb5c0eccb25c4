-- Maps of orders to 0 and 1 with which the rules commute.
use Rattle.std.proofs.Common.{ℕ, zero, suc, ◌+◌, ◌*◌, ◌/◌, ◌<◌, ◌≤◌, ◌≡◌, ◌≢◌, Bool, true, false, cond, List, [], ◌∷◌, map, length, refl, sym, ap, ◌∙◌, arith, inl, inr, Option, Some}
use Rattle.std.specs.Prelude.{count_by, find, sum_by, unwrap_or, nat_lt, nat_le, ◌==◌, ◌⊎◌}
use Rattle.std.proofs.lemmas.Bool.Decides.{nat_tests}
use Rattle.std.proofs.lemmas.Bool.{cases_Bool, cases_eq, cases_lt, cases_order, and_parts, and_from, lt-ltb, le-ltb, le-leb, ltb-true, leb-true, eq-eqb, ne_eqb, cond-true, cond-false}
use Rattle.std.proofs.lemmas.List.{length-map}
use Rattle.std.proofs.lemmas.List.Sums.{sum_by-cons}
use Rattle.combine.specs.declared.campaign_rule.Rule.{Rule}
use Rattle.combine.specs.declared.campaign_rule.Rule.TheVariants.{Majority, Median}
use Rattle.combine.specs.Rule.{combined_by, is_most, is_middle, majority, median}
use Rattle.combine.specs.Laws.{find_only, majority_is_rule, only_middle}
use Rattle.combine.proofs.Found.{find_passes, cases_find}
use Rattle.label.specs.Oral.{AllBelow}
use Rattle.lies.specs.TwoOrders.{Projection, RulesProject}

-- Proves that what is found is in the list.
find_in : (t : ℕ → Bool) (xs : List ℕ) (v : ℕ) → find t xs ≡ Some v → 0 < count_by (λ x. x == v) xs
find_in t [] v e = absurd cc
find_in t (x ∷ xs) v e = elim (cases_Bool (t x)) [
  | inl it ↦
      let same : x ≡ v = let h = sym (cond-true (t x) (Some x) (find t xs) it) ∙ e in cc in
      rw (sum_by-cons (λ y. cond (y == v) 1 0) x xs, eq-eqb x v same) (omega arith)
  | inr fails ↦
      let rest = find_in t xs v (sym (cond-false (t x) (Some x) (find t xs) fails) ∙ e) in
      rw (sum_by-cons (λ y. cond (y == v) 1 0) x xs) (omega arith)
]

-- Proves that an element of a list of 0 and 1 is 0 or 1.
in_small : (xs : List ℕ) (v : ℕ) → AllBelow 2 xs → 0 < count_by (λ x. x == v) xs → v < 2
in_small [] v b some = absurd (omega arith)
in_small (x ∷ xs) v b some = elim (cases_eq x v) [
  | inl same ↦ let l = b.0 in omega arith
  | inr ne ↦ in_small xs v b.1 (let e : cond {A = ℕ} (x == v) 1 0 ≡ 0 = cond-false (x == v) 1 0 (ne_eqb x v ne) in omega (arith, sum_by-cons (λ y. cond (y == v) 1 0) x xs))
]

found_small : (t : ℕ → Bool) (xs : List ℕ) → AllBelow 2 xs → unwrap_or (find t xs) 0 < 2
found_small t xs b = cases_find t xs (unwrap_or (find t xs) 0 < 2) (λ e. rw e (omega arith)) (λ v e. rw e (in_small xs v b (find_in t xs v e)))

rule_small : (rule : Rule) (xs : List ℕ) → AllBelow 2 xs → combined_by rule xs < 2
unfolding majority median
rule_small Majority xs b = found_small (is_most xs) xs b
rule_small Median xs b = found_small (is_middle xs) xs b

-- Returns 1 for the order v, and 0 for any other.
abbrev is_v : ℕ → ℕ → ℕ
is_v v x = cond (x == v) 1 0

is_v-two : (v x : ℕ) → is_v v x < 2
is_v-two v x = bit (x == v)
  where
    bit : (b : Bool) → cond {A = ℕ} b 1 0 < 2
    bit true = omega arith
    bit false = omega arith

all_small : (F : ℕ → ℕ) → ((x : ℕ) → F x < 2) → (xs : List ℕ) → AllBelow 2 (map F xs)
all_small F l [] = tt
all_small F l (x ∷ xs) = (l x, all_small F l xs)

count_v : (v : ℕ) (xs : List ℕ) → count_by (λ x. x == 1) (map (is_v v) xs) ≡ count_by (λ x. x == v) xs
count_v v [] = refl
count_v v (x ∷ xs) =
    let ih = count_v v xs in
    let one : cond {A = ℕ} (is_v v x == 1) 1 0 ≡ cond (x == v) 1 0 = bit (x == v) in
    rw (sum_by-cons (λ y. cond (y == 1) 1 0) (is_v v x) (map (is_v v) xs), sum_by-cons (λ y. cond (y == v) 1 0) x xs) (omega arith)
  where
    bit : (b : Bool) → cond {A = ℕ} (cond {A = ℕ} b 1 0 == 1) 1 0 ≡ cond b 1 0
    bit true = refl
    bit false = refl

-- Proves that the majority is in more than half of the places, unless it is 0.
majority_most : (xs : List ℕ) (v : ℕ) → majority xs ≡ v → v ≢ 0 → length xs < 2 * count_by (λ x. x == v) xs
unfolding majority
majority_most xs v e ne = cases_find (is_most xs) xs (length xs < 2 * count_by (λ x. x == v) xs)
    (λ none. absurd (ne (sym (sym (ap (λ (o : Option ℕ). unwrap_or o 0) none) ∙ e))))
    (λ u found.
    let same : u ≡ v = sym (ap (λ (o : Option ℕ). unwrap_or o 0) found) ∙ e in
    let most : length xs < 2 * count_by (λ x. x == u) xs = ltb-true (length xs) (2 * count_by (λ x. x == u) xs) (find_passes (is_most xs) xs u found) in
    rw same at most)

majority_commutes : (v : ℕ) → v ≢ 0 → (xs : List ℕ) → majority (map (is_v v) xs) ≡ is_v v (majority xs)
majority_commutes v ne xs = elim (cases_lt (length xs) (2 * count_by (λ x. x == v) xs)) [
  | inl most ↦
      let one : majority (map (is_v v) xs) ≡ 1 = majority_is_rule (map (is_v v) xs) 1 (rw (length-map, count_v v xs) most) in
      let same : majority xs ≡ v = majority_is_rule xs v most in
      one ∙ sym (cond-true (majority xs == v) 1 0 (eq-eqb (majority xs) v same))
  | inr few ↦
      let other : majority xs ≢ v = λ e. (let most = majority_most xs v e ne in omega arith) in
      none few (majority (map (is_v v) xs)) refl (rule_small Majority (map (is_v v) xs) (all_small (is_v v) (is_v-two v) xs))
      ∙ sym (cond-false (majority xs == v) 1 0 (ne_eqb (majority xs) v other))
]
  where
    none : 2 * count_by (λ x. x == v) xs ≤ length xs → (u : ℕ) → majority (map (is_v v) xs) ≡ u → u < 2 → majority (map (is_v v) xs) ≡ 0
    none few zero e l = e
    none few (suc zero) e l =
        let most = majority_most (map (is_v v) xs) 1 e (λ z. omega arith) in
        let count = count_v v xs in
        let long = length-map xs (is_v v) in
        absurd (omega arith)
    none few (suc (suc u)) e l = absurd (omega arith)

-- Returns 1 for an order of at least t, and 0 for any other.
abbrev from_t : ℕ → ℕ → ℕ
from_t t x = cond (nat_lt x t) 0 1

from_t-two : (t x : ℕ) → from_t t x < 2
from_t-two t x = bit (nat_lt x t)
  where
    bit : (b : Bool) → cond {A = ℕ} b 0 1 < 2
    bit true = omega arith
    bit false = omega arith

-- Proves that the map keeps the order of numbers.
from_t-up : (t x y : ℕ) → x ≤ y → from_t t x ≤ from_t t y
from_t-up t x y l = grind (arith, nat_tests)

-- Proves that a count of a mapped list is at most a count of the list, if the first test implies the second.
count_map : (p q : ℕ → Bool) (F : ℕ → ℕ) (xs : List ℕ) → ((x : ℕ) → p (F x) ≡ true → q x ≡ true) → count_by p (map F xs) ≤ count_by q xs
count_map p q F [] h = omega arith
count_map p q F (x ∷ xs) h =
    let ih = count_map p q F xs h in
    let one : cond {A = ℕ} (p (F x)) 1 0 ≤ cond (q x) 1 0 = fewer (p (F x)) (q x) (h x) in
    rw (sum_by-cons (λ y. cond (p y) 1 0) (F x) (map F xs), sum_by-cons (λ y. cond (q y) 1 0) x xs) (omega arith)
  where
    fewer : (a b : Bool) → (a ≡ true → b ≡ true) → cond {A = ℕ} a 1 0 ≤ cond b 1 0
    fewer true b h = rw (h refl) (omega arith)
    fewer false b h = omega arith

count_map-up : (p q : ℕ → Bool) (F : ℕ → ℕ) (xs : List ℕ) → ((x : ℕ) → q x ≡ true → p (F x) ≡ true) → count_by q xs ≤ count_by p (map F xs)
count_map-up p q F [] h = omega arith
count_map-up p q F (x ∷ xs) h =
    let ih = count_map-up p q F xs h in
    let one : cond {A = ℕ} (q x) 1 0 ≤ cond (p (F x)) 1 0 = fewer (q x) (p (F x)) (h x) in
    rw (sum_by-cons (λ y. cond (p y) 1 0) (F x) (map F xs), sum_by-cons (λ y. cond (q y) 1 0) x xs) (omega arith)
  where
    fewer : (a b : Bool) → (a ≡ true → b ≡ true) → cond {A = ℕ} a 1 0 ≤ cond b 1 0
    fewer true b h = rw (h refl) (omega arith)
    fewer false b h = omega arith

-- Proves that the test of the middle means its two conditions.
middle_parts : (xs : List ℕ) (v : ℕ) → is_middle xs v ≡ true → (count_by (λ x. nat_lt x v) xs ≤ length xs / 2) × (length xs / 2 < count_by (λ x. nat_le x v) xs)
unfolding is_middle
middle_parts xs v e =
    let both = and_parts (nat_le (count_by (λ x. nat_lt x v) xs) (length xs / 2)) (nat_lt (length xs / 2) (count_by (λ x. nat_le x v) xs)) e in
    (leb-true (count_by (λ x. nat_lt x v) xs) (length xs / 2) both.0, ltb-true (length xs / 2) (count_by (λ x. nat_le x v) xs) both.1)

middle_from : (xs : List ℕ) (v : ℕ) → count_by (λ x. nat_lt x v) xs ≤ length xs / 2 → length xs / 2 < count_by (λ x. nat_le x v) xs → is_middle xs v ≡ true
unfolding is_middle
middle_from xs v few many =
    and_from (nat_le (count_by (λ x. nat_lt x v) xs) (length xs / 2)) (nat_lt (length xs / 2) (count_by (λ x. nat_le x v) xs))
    (le-leb (count_by (λ x. nat_lt x v) xs) (length xs / 2) few) (lt-ltb (length xs / 2) (count_by (λ x. nat_le x v) xs) many)

-- Proves that an order in the middle is the median.
middle_is : (xs : List ℕ) (v : ℕ) → is_middle xs v ≡ true → median xs ≡ v
unfolding median
middle_is xs v mid =
    let parts = middle_parts xs v mid in
    let split = less_and_same v xs in
    ap (λ (o : Option ℕ). unwrap_or o 0) (find_only (is_middle xs) v xs (λ u h. only_middle xs v u mid h) mid (let few = parts.0 in let many = parts.1 in omega arith))
  where
    less_and_same : (v : ℕ) (xs : List ℕ) → count_by (λ x. nat_le x v) xs ≤ count_by (λ x. nat_lt x v) xs + count_by (λ x. x == v) xs
    less_and_same v [] = omega arith
    less_and_same v (x ∷ xs) =
        let ih = less_and_same v xs in
        let one : cond {A = ℕ} (nat_le x v) 1 0 ≤ cond (nat_lt x v) 1 0 + cond (x == v) 1 0 = grind (arith, nat_tests) in
        rw (sum_by-cons (λ y. cond (nat_le y v) 1 0) x xs, sum_by-cons (λ y. cond (nat_lt y v) 1 0) x xs, sum_by-cons (λ y. cond (y == v) 1 0) x xs) (omega arith)

-- Proves that the map takes the middle to the middle.
middle_image : (t : ℕ) (xs : List ℕ) (v : ℕ) → is_middle xs v ≡ true → is_middle (map (from_t t) xs) (from_t t v) ≡ true
middle_image t xs v mid =
    let parts = middle_parts xs v mid in
    let fewer : count_by (λ x. nat_lt x (from_t t v)) (map (from_t t) xs) ≤ count_by (λ x. nat_lt x v) xs =
    count_map (λ x. nat_lt x (from_t t v)) (λ x. nat_lt x v) (from_t t) xs (λ x h. below x (ltb-true (from_t t x) (from_t t v) h))
    in
    let more : count_by (λ x. nat_le x v) xs ≤ count_by (λ x. nat_le x (from_t t v)) (map (from_t t) xs) =
    count_map-up (λ x. nat_le x (from_t t v)) (λ x. nat_le x v) (from_t t) xs (λ x h. le-leb (from_t t x) (from_t t v) (from_t-up t x v (leb-true x v h)))
    in
    let few = parts.0 in
    let many = parts.1 in
    middle_from (map (from_t t) xs) (from_t t v) (rw length-map (omega arith)) (rw length-map (omega arith))
  where
    below : (x : ℕ) → from_t t x < from_t t v → nat_lt x v ≡ true
    below x l = elim (cases_lt x v) [ inl it ↦ lt-ltb x v it | inr more ↦ absurd (let up = from_t-up t v x more in omega arith) ]

-- Proves that all elements are at most their sum, so that there is a middle unless the list is empty.
all_up_to : (xs : List ℕ) (b : ℕ) → sum_by (λ x. x) xs ≤ b → length xs ≤ count_by (λ x. nat_le x b) xs
all_up_to [] b l = omega arith
all_up_to (x ∷ xs) b l =
    let sum = sum_by-cons (λ (y : ℕ). y) x xs in
    let ih = all_up_to xs b (omega arith) in
    let here : nat_le x b ≡ true = le-leb x b (omega arith) in
    rw (sum_by-cons (λ y. cond (nat_le y b) 1 0) x xs, here) (omega arith)

count_same : (p q : ℕ → Bool) (xs : List ℕ) → ((x : ℕ) → p x ≡ q x) → count_by p xs ≡ count_by q xs
count_same p q [] same = refl
count_same p q (x ∷ xs) same = rw (sum_by-cons (λ y. cond (p y) 1 0) x xs, sum_by-cons (λ y. cond (q y) 1 0) x xs, same x, count_same p q xs same) refl

least_middle : (xs : List ℕ) (b : ℕ) → length xs / 2 < count_by (λ x. nat_le x b) xs → (v : ℕ) × (is_middle xs v ≡ true)
least_middle xs zero many = (zero, middle_from xs zero (none xs) many)
  where
    none : (ys : List ℕ) → count_by (λ x. nat_lt x 0) ys ≤ length xs / 2
    none [] = omega arith
    none (y ∷ ys) = let ih = none ys in let h : nat_lt y 0 ≡ false = le-ltb y 0 (omega arith) in rw (sum_by-cons (λ z. cond (nat_lt z 0) 1 0) y ys, h) (omega arith)
least_middle xs (suc b) many = elim (cases_lt (length xs / 2) (count_by (λ x. nat_le x b) xs)) [
  | inl earlier ↦ least_middle xs b earlier
  | inr few ↦
      let same : count_by (λ x. nat_lt x (suc b)) xs ≡ count_by (λ x. nat_le x b) xs = count_same (λ x. nat_lt x (suc b)) (λ x. nat_le x b) xs (λ x. grind (arith, nat_tests)) in
      (suc b, middle_from xs (suc b) (omega arith) many)
]

median_commutes : (t : ℕ) → 0 < t → (xs : List ℕ) → median (map (from_t t) xs) ≡ from_t t (median xs)
unfolding median
median_commutes t some [] = sym (cond-true (nat_lt 0 t) 0 1 (lt-ltb 0 t some))
median_commutes t some (x ∷ xs) =
    let many = all_up_to (x ∷ xs) (sum_by (λ y. y) (x ∷ xs)) (omega arith) in
    let mid = least_middle (x ∷ xs) (sum_by (λ y. y) (x ∷ xs)) (omega arith) in
    middle_is (map (from_t t) (x ∷ xs)) (from_t t mid.0) (middle_image t (x ∷ xs) mid.0 mid.1) ∙ ap (from_t t) (sym (middle_is (x ∷ xs) mid.0 mid.1))

-- Proves that there is a map that keeps two orders apart.
majority_projects : (a b v : ℕ) → v ≢ 0 → ((v ≡ a) × (b ≢ a)) ⊎ ((v ≡ b) × (b ≢ a)) → Projection majority a b
majority_projects a b v ne which = record {
  image = is_v v;
  retreat = cond-false (0 == v) 1 0 (ne_eqb 0 v (λ e. ne (sym e)));
  two = is_v-two v;
  apart = λ e. elim which [
    | inl at_a ↦ clash (is_v v a) (is_v v b) e (cond-true (a == v) 1 0 (eq-eqb a v (sym at_a.0))) (cond-false (b == v) 1 0 (ne_eqb b v (λ h. at_a.1 (h ∙ at_a.0))))
    | inr at_b ↦ clash (is_v v b) (is_v v a) (sym e) (cond-true (b == v) 1 0 (eq-eqb b v (sym at_b.0))) (cond-false (a == v) 1 0 (ne_eqb a v (λ h. at_b.1 (sym (h ∙ at_b.0)))))
  ];
  commutes = majority_commutes v ne;
}
  where
    clash : (p q : ℕ) → p ≡ q → p ≡ 1 → q ≡ 0 → ⊥
    clash p q e h k = omega arith

median_projects : (a b t : ℕ) → 0 < t → ((t ≡ a) × (b < a)) ⊎ ((t ≡ b) × (a < b)) → Projection median a b
median_projects a b t some which = record {
  image = from_t t;
  retreat = cond-true (nat_lt 0 t) 0 1 (lt-ltb 0 t some);
  two = from_t-two t;
  apart = λ e. elim which [
    | inl at_a ↦ let l = at_a.1 in let h = at_a.0 in clash (from_t t a) (from_t t b) e (cond-false (nat_lt a t) 0 1 (le-ltb a t (omega arith))) (cond-true (nat_lt b t) 0 1 (lt-ltb b t (omega arith)))
    | inr at_b ↦ let l = at_b.1 in let h = at_b.0 in clash (from_t t b) (from_t t a) (sym e) (cond-false (nat_lt b t) 0 1 (le-ltb b t (omega arith))) (cond-true (nat_lt a t) 0 1 (lt-ltb a t (omega arith)))
  ];
  commutes = median_commutes t some;
}
  where
    clash : (p q : ℕ) → p ≡ q → p ≡ 1 → q ≡ 0 → ⊥
    clash p q e h k = omega arith

rule_projects : (rule : Rule) (a b : ℕ) → a ≢ b → Projection (combined_by rule) a b
rule_projects Majority a b ne = elim (cases_eq a 0) [
  | inl none ↦ majority_projects a b b (λ z. ne (none ∙ sym z)) (inr (refl, λ e. ne (sym e)))
  | inr some ↦ majority_projects a b a some (inl (refl, λ e. ne (sym e)))
]
rule_projects Median a b ne = elim (cases_order a b) [
  | inl same ↦ absurd (ne same)
  | inr other ↦ elim other [
    | inl less ↦ median_projects a b b (omega arith) (inr (refl, less))
    | inr more ↦ median_projects a b a (omega arith) (inl (refl, more))
  ]
]

-- Proves the law that specs/TwoOrders states.
pub proved_rules_project : RulesProject
proved_rules_project = record { projected = rule_projects; small = rule_small }
