-- A rule that is right on lists of two orders, extended to a majority rule that decides the same on them.
use Rattle.std.proofs.Common.{ℕ, zero, suc, ◌+◌, ◌-◌, ◌<◌, ◌≤◌, ◌≡◌, Bool, true, false, cond, ◌&&◌, List, [], ◌∷◌, ◌++◌, map, length, refl, sym, ap, ◌∙◌, arith, inl, inr}
use Rattle.std.specs.Prelude.{◌==◌, nat_lt, nat_le}
use Rattle.std.specs.List.{list_all}
use Rattle.std.proofs.lemmas.Bool.{cases_Bool, cond-true, cond-false, and_parts, and_from, leb-true, le-leb, lt-ltb, or_left, or_right, eq-eqb}
use Rattle.std.proofs.lemmas.List.{length-map}
use Rattle.combine.specs.Rule.{IsMajorityRule, majority}
use Rattle.combine.specs.Laws.{majority_is_rule}
use Rattle.label.specs.Labels.{on, others}
use Rattle.label.specs.Oral.{AllBelow, Messages, taken, om}
use Rattle.label.proofs.Counting.{others-on, others-length, map_agree}
use Rattle.label.proofs.Counts.{below}
use Rattle.label.proofs.Ranks.{others-count}
use Rattle.bounds.proofs.Induction.{proved_tolerance}
use Rattle.bounds.specs.TwoOrders.{IsTwoOrderRule, TwoOrderRulesAgree}

-- Returns whether the rule is known to be right on the list.
abbrev is_asked : ℕ → List ℕ → Bool
is_asked most xs = nat_le (length xs) most && list_all (λ x. nat_lt x 2) xs

extended : (List ℕ → ℕ) → ℕ → List ℕ → ℕ
extended f most xs = cond (is_asked most xs) (f xs) (majority xs)

extended_law : (f : List ℕ → ℕ) (most : ℕ) → IsTwoOrderRule most f → IsMajorityRule (extended f most)
unfolding extended
extended_law f most is xs v more = elim (cases_Bool (is_asked most xs)) [
  | inl asked ↦
      let both = and_parts (nat_le (length xs) most) (list_all (λ x. nat_lt x 2) xs) asked in
      cond-true (is_asked most xs) (f xs) (majority xs) asked ∙ is.law xs v (leb-true (length xs) most both.0) (below 2 xs both.1) more
  | inr other ↦ cond-false (is_asked most xs) (f xs) (majority xs) other ∙ majority_is_rule xs v more
]

all_small : (xs : List ℕ) → AllBelow 2 xs → list_all (λ x. nat_lt x 2) xs ≡ true
all_small [] b = refl
all_small (x ∷ xs) b = and_from (nat_lt x 2) (list_all (λ y. nat_lt y 2) xs) (lt-ltb x 2 b.0) (all_small xs b.1)

extended_same : (f : List ℕ → ℕ) (most : ℕ) (xs : List ℕ) → length xs ≤ most → AllBelow 2 xs → extended f most xs ≡ f xs
unfolding extended
extended_same f most xs l b = cond-true (is_asked most xs) (f xs) (majority xs) (and_from (nat_le (length xs) most) (list_all (λ x. nat_lt x 2) xs) (le-leb (length xs) most l) (all_small xs b))

below-map : (F : ℕ → ℕ) (xs : List ℕ) → ((j : ℕ) → on xs j ≡ true → F j < 2) → AllBelow 2 (map F xs)
below-map F [] says = tt
below-map F (x ∷ xs) says = (says x (or_left (x == x) (on xs x) (eq-eqb x x refl)), below-map F xs (λ j h. says j (or_right (x == j) (on xs j) h)))

abbrev entry : (List ℕ → ℕ) → ℕ → Messages → ℕ → List ℕ → ℕ → ℕ → ℕ
entry f n M k w p j = cond (j == p) (taken M w p) (om f n M k (w ++ j ∷ []) p)

-- States that both rules lead to the same decision, which is 0 or 1.
record Same (f : List ℕ → ℕ) (n most : ℕ) (M : Messages) (k : ℕ) (w : List ℕ) (p : ℕ) : Type 0 where
  two : om f n M k w p < 2
  same : om (extended f most) n M k w p ≡ om f n M k w p

same_om : (f : List ℕ → ℕ) (n most : ℕ) (M : Messages) → IsTwoOrderRule most f → ((w : List ℕ) (p : ℕ) → taken M w p < 2) → (k : ℕ) (w : List ℕ) (p : ℕ) → length (others n w) ≤ most → Same f n most M k w p
unfolding om
same_om f n most M is small zero w p l = record { two = small w p; same = refl }
same_om f n most M is small (suc k) w p l =
    let ih : (j : ℕ) → on (others n w) j ≡ true → Same f n most M k (w ++ j ∷ []) p =
    λ j i. same_om f n most M is small k (w ++ j ∷ []) p (let o = others-on n w j i in omega (arith, others-length n w j o.0 o.1)) in
    let each : (j : ℕ) → on (others n w) j ≡ true → cond (j == p) (taken M w p) (om f n M k (w ++ j ∷ []) p) < 2 =
    λ j i. small_cond (j == p) (taken M w p) (om f n M k (w ++ j ∷ []) p) (small w p) (ih j i).two in
    let asked : AllBelow 2 (map (λ j. cond (j == p) (taken M w p) (om f n M k (w ++ j ∷ []) p)) (others n w)) = below-map (λ j. cond (j == p) (taken M w p) (om f n M k (w ++ j ∷ []) p)) (others n w) each in
    let short : length (map (λ j. cond (j == p) (taken M w p) (om f n M k (w ++ j ∷ []) p)) (others n w)) ≤ most = rw length-map l in
    record {
      two = is.two (map (λ j. cond (j == p) (taken M w p) (om f n M k (w ++ j ∷ []) p)) (others n w)) short asked;
      same =
          ap (extended f most) (map_agree (λ j. cond (j == p) (taken M w p) (om (extended f most) n M k (w ++ j ∷ []) p)) (λ j. cond (j == p) (taken M w p) (om f n M k (w ++ j ∷ []) p)) (others n w) (λ j i. ap (cond (j == p) (taken M w p)) (ih j i).same))
          ∙ extended_same f most (map (λ j. cond (j == p) (taken M w p) (om f n M k (w ++ j ∷ []) p)) (others n w)) short asked;
    }
  where
    small_cond : (b : Bool) (x y : ℕ) → x < 2 → y < 2 → cond b x y < 2
    small_cond true x y l h = l
    small_cond false x y l h = h

pub proved_two_order_rules_agree : TwoOrderRulesAgree
proved_two_order_rules_agree f n m k is tolerable c order traitor M inside few small faithful =
    let size : length (others n (c ∷ [])) + 1 ≡ n = others-count n (c ∷ []) refl (inside, tt) in
    let all = proved_tolerance (extended f (n - 1)) (extended_law f (n - 1) is) n m k tolerable c order traitor M inside few faithful in
    let same : (p : ℕ) → om (extended f (n - 1)) n M m (c ∷ []) p ≡ om f n M m (c ∷ []) p =
    λ p. (same_om f n (n - 1) M is small m (c ∷ []) p (omega arith)).same in
    record {
      alike = λ p q lp lq. sym (same p) ∙ (all.alike p q lp lq ∙ same q);
      obeyed = λ good p lp. sym (same p) ∙ all.obeyed good p lp;
    }
