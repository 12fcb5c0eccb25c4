-- The law that the orders 0 and 1 suffice, as specs/TwoOrders states it.
use Rattle.std.proofs.Common.{ℕ, zero, suc, ◌<◌, ◌≤◌, ◌≡◌, Bool, true, false, not, cond, List, [], ◌∷◌, ◌++◌, map, refl, sym, ap, ◌∙◌, arith, inl, inr, Option, Some}
use Rattle.std.specs.Prelude.{count_by, sum_by, ◌&&◌, ◌==◌}
use Rattle.std.proofs.lemmas.Bool.{cases_eq, eq-eqb, eqb-true, false≢true}
use Rattle.std.proofs.lemmas.List.Sums.{sum_by-cons}
use Rattle.combine.specs.declared.campaign_rule.Rule.{Rule}
use Rattle.combine.specs.Rule.{combined_by}
use Rattle.label.specs.Labels.{others}
use Rattle.label.specs.Oral.{Messages, taken, om, order_of, IsFaithful, Agree}
use Rattle.label.proofs.Counting.{map_agree}
use Rattle.lies.specs.Break.{attacks_at, attacks_from}
use Rattle.lies.specs.TwoOrders.{Projection, TwoOrdersSuffice, Within}
use Rattle.lies.proofs.Projections.{proved_rules_project}

-- Returns the messages in which each order is mapped.
abbrev mapped : (ℕ → ℕ) → Messages → Messages
mapped F M w p = Some (F (taken M w p))

map_twice : (F G : ℕ → ℕ) (xs : List ℕ) → map F (map G xs) ≡ map (λ x. F (G x)) xs
map_twice F G [] = refl
map_twice F G (x ∷ xs) = ap (λ ys. F (G x) ∷ ys) (map_twice F G xs)

-- Proves that decisions are mapped likewise.
om_mapped : (F : ℕ → ℕ) → (rule : List ℕ → ℕ) → ((xs : List ℕ) → rule (map F xs) ≡ F (rule xs)) → (n : ℕ) (M : Messages) (k : ℕ) (w : List ℕ) (p : ℕ) → om rule n (mapped F M) k w p ≡ F (om rule n M k w p)
unfolding om
om_mapped F rule commutes n M zero w p = refl
om_mapped F rule commutes n M (suc k) w p =
    ap rule (map_agree (λ j. cond (j == p) (F (taken M w p)) (om rule n (mapped F M) k (w ++ j ∷ []) p)) (λ j. F (cond (j == p) (taken M w p) (om rule n M k (w ++ j ∷ []) p))) (others n w)
    (λ j i. each (j == p) (taken M w p) (om rule n (mapped F M) k (w ++ j ∷ []) p) (om rule n M k (w ++ j ∷ []) p) (om_mapped F rule commutes n M k (w ++ j ∷ []) p))
    ∙ sym (map_twice F (λ j. cond (j == p) (taken M w p) (om rule n M k (w ++ j ∷ []) p)) (others n w)))
    ∙ commutes (map (λ j. cond (j == p) (taken M w p) (om rule n M k (w ++ j ∷ []) p)) (others n w))
  where
    each : (b : Bool) (t y z : ℕ) → y ≡ F z → cond b (F t) y ≡ F (cond b t z)
    each true t y z e = refl
    each false t y z e = e

-- Proves that a general stays faithful.
faithful_mapped : (F : ℕ → ℕ) (n c m order : ℕ) (M : Messages) (g : ℕ) → IsFaithful n c m order M g → IsFaithful n c m (F order) (mapped F M) g
faithful_mapped F n c m order M g is [] p label short within off = ap (λ (o : Option ℕ). Some (F (order_of o))) (is [] p label short within off)
faithful_mapped F n c m order M g is (x ∷ xs) p label short within off = ap (λ (o : Option ℕ). Some (F (order_of o))) (is (x ∷ xs) p label short within off)

-- Proves that the mapped messages have no more orders other than RETREAT.
sum_more : (F G : ℕ → ℕ) (js : List ℕ) → ((j : ℕ) → F j ≤ G j) → sum_by F js ≤ sum_by G js
sum_more F G [] each = omega arith
sum_more F G (j ∷ js) each =
    let here = each j in
    let rest = sum_more F G js each in
    rw (sum_by-cons F j js, sum_by-cons G j js) (omega arith)

fewer_at : (F : ℕ → ℕ) → F 0 ≡ 0 → (n : ℕ) (t : ℕ → Bool) (M : Messages) (w : List ℕ) (g : ℕ) → attacks_at n t (mapped F M) w g ≤ attacks_at n t M w g
fewer_at F keeps n t M w g = own (t g)
  where
    bits : (b y z : Bool) → (z ≡ true → y ≡ true) → cond {A = ℕ} (b && not y) 1 0 ≤ cond (b && not z) 1 0
    bits true true z h = omega arith
    bits true false true h = absurd (false≢true (h refl))
    bits true false false h = omega arith
    bits false y z h = omega arith

    still : (v : ℕ) (b : Bool) → cond {A = ℕ} (b && not (F v == 0)) 1 0 ≤ cond (b && not (v == 0)) 1 0
    still v b = bits b (F v == 0) (v == 0) (λ e. eq-eqb (F v) 0 (ap F (eqb-true v 0 e) ∙ keeps))

    own : (b : Bool) → cond b (count_by (λ p. not (t p) && not (F (taken M w p) == 0)) (others n w)) 0 ≤ cond b (count_by (λ p. not (t p) && not (taken M w p == 0)) (others n w)) 0
    own true = sum_more (λ p. cond (not (t p) && not (F (taken M w p) == 0)) 1 0) (λ p. cond (not (t p) && not (taken M w p == 0)) 1 0) (others n w) (λ p. still (taken M w p) (not (t p)))
    own false = omega arith

fewer_from : (F : ℕ → ℕ) → F 0 ≡ 0 → (n : ℕ) (t : ℕ → Bool) (M : Messages) (k : ℕ) (w : List ℕ) (g : ℕ) → attacks_from n t (mapped F M) k w g ≤ attacks_from n t M k w g
unfolding attacks_from
fewer_from F keeps n t M zero w g = fewer_at F keeps n t M w g
fewer_from F keeps n t M (suc k) w g =
    let here = fewer_at F keeps n t M w g in
    let rest = sum_more (λ j. attacks_from n t (mapped F M) k (w ++ j ∷ []) j) (λ j. attacks_from n t M k (w ++ j ∷ []) j) (others n w) (λ j. fewer_from F keeps n t M k (w ++ j ∷ []) j) in
    omega arith

-- Proves that the loyal lieutenants agree after the mapped messages.
agreed : (rule : Rule) (n m c most : ℕ) (t : ℕ → Bool) → ((order : ℕ) (M : Messages) → order < 2 → ((w : List ℕ) (p : ℕ) → taken M w p < 2) → Within n m c most order t M → Agree n c order t (om (combined_by rule) n M m (c ∷ [])))
    → (order : ℕ) (M : Messages) → Within n m c most order t M → (a b : ℕ) (x : Projection (combined_by rule) a b) → Agree n c (x.image order) t (om (combined_by rule) n (mapped x.image M) m (c ∷ []))
agreed rule n m c most t agree order M w a b x =
    let fewer = fewer_from x.image x.retreat n t M m (c ∷ []) c in
    let few = w.few in
    agree (x.image order) (mapped x.image M) (x.two order) (λ v p. x.two (taken M v p))
    (record { few = omega arith; faithful = λ g l loyal. faithful_mapped x.image n c m order M g (w.faithful g l loyal) })

pub proved_two_orders_suffice : TwoOrdersSuffice
proved_two_orders_suffice rule n m c most t inside agree order M w = record {
  alike = λ p q lp lq. elim (cases_eq (om (combined_by rule) n M m (c ∷ []) p) (om (combined_by rule) n M m (c ∷ []) q)) [
    | inl same ↦ same
    | inr ne ↦
        let x : Projection (combined_by rule) (om (combined_by rule) n M m (c ∷ []) p) (om (combined_by rule) n M m (c ∷ []) q) = proved_rules_project.projected rule (om (combined_by rule) n M m (c ∷ []) p) (om (combined_by rule) n M m (c ∷ []) q) ne in
        let both = agreed rule n m c most t agree order M w (om (combined_by rule) n M m (c ∷ []) p) (om (combined_by rule) n M m (c ∷ []) q) x in
        absurd (x.apart (sym (om_mapped x.image (combined_by rule) x.commutes n M m (c ∷ []) p) ∙ (both.alike p q lp lq ∙ om_mapped x.image (combined_by rule) x.commutes n M m (c ∷ []) q)))
  ];
  obeyed = λ loyal p lp. elim (cases_eq (om (combined_by rule) n M m (c ∷ []) p) order) [
    | inl same ↦ same
    | inr ne ↦
        let x : Projection (combined_by rule) (om (combined_by rule) n M m (c ∷ []) p) order = proved_rules_project.projected rule (om (combined_by rule) n M m (c ∷ []) p) order ne in
        let both = agreed rule n m c most t agree order M w (om (combined_by rule) n M m (c ∷ []) p) order x in
        absurd (x.apart (sym (om_mapped x.image (combined_by rule) x.commutes n M m (c ∷ []) p) ∙ both.obeyed loyal p lp))
  ];
}
