-- Traitors who deny the commander's order: the proof of the law in specs/Denial.
use Rattle.std.proofs.Common.{ℕ, zero, suc, ◌+◌, ◌*◌, ◌<◌, ◌≤◌, ◌≡◌, ◌≢◌, Bool, true, false, not, cond, ◌||◌, List, [], ◌∷◌, ◌++◌, map, length, refl, sym, ap, ◌∙◌, arith, inl, inr, Some}
use Rattle.std.specs.Prelude.{count_by, ◌==◌}
use Rattle.std.specs.List.{list_any}
use Rattle.std.proofs.lemmas.Bool.{cases_Bool, cond-true, cond-false, or_left, or_right, or_from, ne_eqb, not-true, eqb-false, true≢false}
use Rattle.std.proofs.lemmas.List.FromFn.{length-range_with_len}
use Rattle.std.proofs.lemmas.List.{length-map}
use Rattle.std.proofs.lemmas.List.Sums.{count_by-le-length}
use Rattle.combine.specs.Rule.{majority}
use Rattle.label.specs.Labels.{on, generals, others}
use Rattle.label.specs.Oral.{taken, heard, om, IsFaithful, IsLoyalLieutenant}
use Rattle.label.proofs.Counting.{on-push, others-on, others-split, others-length, others-distinct, length-sum}
use Rattle.label.proofs.Ranks.{all_kept}
use Rattle.bounds.proofs.VoteLemmas.{majority_zero, zeros, all_but}
use Rattle.bounds.specs.Denial.{denial, IsOutvoted, DenialBreaks}

any-push : (t : ℕ → Bool) (u : List ℕ) (g : ℕ) → list_any t (u ++ g ∷ []) ≡ (list_any t u || t g)
any-push t [] g = or_comm (t g)
  where
    or_comm : (b : Bool) → (b || false) ≡ (false || b)
    or_comm true = refl
    or_comm false = refl
any-push t (x ∷ xs) g = rw (any-push t xs g) (or_assoc (t x) (list_any t xs) (t g))
  where
    or_assoc : (a b d : Bool) → (a || (b || d)) ≡ ((a || b) || d)
    or_assoc true b d = refl
    or_assoc false b d = refl

-- Proves that a loyal general at the end of a label adds no traitor to it.
any-loyal : (t : ℕ → Bool) (u : List ℕ) (g : ℕ) → t g ≡ false → list_any t (u ++ g ∷ []) ≡ list_any t u
any-loyal t u g e = any-push t u g ∙ (rw e (last (list_any t u)))
  where
    last : (b : Bool) → (b || false) ≡ b
    last true = refl
    last false = refl

heard-denial : (t : ℕ → Bool) (u : List ℕ) (g : ℕ) → cond (list_any t u) 0 1 ≡ heard (denial t) 1 u g
unfolding denial
heard-denial t [] g = refl
heard-denial t (x ∷ xs) g = refl

faithful : (traitor : ℕ → Bool) (n c rounds g : ℕ) → traitor g ≡ false → IsFaithful n c rounds 1 (denial traitor) g
unfolding denial
faithful t n c rounds g loyal u p label short within off = ap (λ (b : Bool). Some (cond b 0 1)) (any-loyal t u g loyal) ∙ ap Some (heard-denial t u g)

taken-lost : (t : ℕ → Bool) (w : List ℕ) (p : ℕ) → list_any t w ≡ true → taken (denial t) w p ≡ 0
unfolding denial
taken-lost t w p e = rw e refl

abbrev entry : (ℕ → Bool) → ℕ → ℕ → List ℕ → ℕ → ℕ → ℕ
entry t n k w p j = cond (j == p) (taken (denial t) w p) (om majority n (denial t) k (w ++ j ∷ []) p)

om-step : (t : ℕ → Bool) (n k : ℕ) (w : List ℕ) (p : ℕ) → om majority n (denial t) (suc k) w p ≡ majority (map (entry t n k w p) (others n w))
unfolding om
om-step t n k w p = refl

om-last : (t : ℕ → Bool) (n : ℕ) (w : List ℕ) (p : ℕ) → om majority n (denial t) zero w p ≡ taken (denial t) w p
unfolding om
om-last t n w p = refl

-- Proves that after a traitor on the label all decisions are 0.
lost : (t : ℕ → Bool) (n k : ℕ) (w : List ℕ) (p : ℕ) → list_any t w ≡ true → om majority n (denial t) k w p ≡ 0
lost t n zero w p e = om-last t n w p ∙ taken-lost t w p e
lost t n (suc k) w p e =
    let each : (j : ℕ) → entry t n k w p j ≡ 0 =
    λ j. elim (cases_Bool (j == p)) [
      | inl same ↦ cond-true (j == p) (taken (denial t) w p) (om majority n (denial t) k (w ++ j ∷ []) p) same ∙ taken-lost t w p e
      | inr apart ↦ cond-false (j == p) (taken (denial t) w p) (om majority n (denial t) k (w ++ j ∷ []) p) apart ∙ lost t n k (w ++ j ∷ []) p (any-push t w j ∙ or_left (list_any t w) (t j) e)
    ]
    in
    om-step t n k w p ∙ majority_zero (map (entry t n k w p) (others n w)) (λ v ne.
    let few : count_by (λ x. x == v) (map (entry t n k w p) (others n w)) + count_by (λ (x : ℕ). true) (others n w) ≤ length (others n w) = zeros (λ x. true) (entry t n k w p) v (others n w) ne (λ j i q. each j) in
    let all : length (others n w) ≡ count_by (λ (x : ℕ). true) (others n w) = length-sum (others n w) in
    rw length-map (omega arith))

-- States what is known of a label without a traitor that k further generals can extend.
record Denied (t : ℕ → Bool) (n k : ℕ) (w : List ℕ) (p : ℕ) : Type 0 where
  clean : list_any t w ≡ false
  within : p < n
  loyal : t p ≡ false
  off : on w p ≡ false
  some : 1 ≤ count_by t (others n w)
  many : length (others n w) < 2 * count_by t (others n w) + k

-- Proves that a traitor contributes 0 to the list.
bad_entry : (t : ℕ → Bool) (n k : ℕ) (w : List ℕ) (p j : ℕ) → t p ≡ false → t j ≡ true → entry t n k w p j ≡ 0
bad_entry t n k w p j loyal bad =
    let ne : j ≢ p = λ e. true≢false (sym bad ∙ ap t e ∙ loyal) in
    cond-false (j == p) (taken (denial t) w p) (om majority n (denial t) k (w ++ j ∷ []) p) (ne_eqb j p ne) ∙ lost t n k (w ++ j ∷ []) p (any-push t w j ∙ or_right (list_any t w) (t j) bad)

denied-push : (t : ℕ → Bool) (n k : ℕ) (w : List ℕ) (p j : ℕ) → Denied t n (suc k) w p → t j ≡ false → (j < n) × (on w j ≡ false) → j ≢ p → Denied t n k (w ++ j ∷ []) p
denied-push t n k w p j d good i ne =
    let fewer : count_by t (others n w) ≡ cond (t j) 1 0 + count_by t (others n (w ++ j ∷ [])) = others-split (λ y. cond (t y) 1 0) n w j i.0 i.1 in
    let same : count_by t (others n w) ≡ count_by t (others n (w ++ j ∷ [])) = let h : count_by t (others n w) ≡ cond false 1 0 + count_by t (others n (w ++ j ∷ [])) = rw good at fewer in omega arith in
    let shorter : length (others n w) ≡ 1 + length (others n (w ++ j ∷ [])) = others-length n w j i.0 i.1 in
    let some = d.some in
    let many = d.many in
    record {
      clean = any-loyal t w j good ∙ d.clean;
      within = d.within;
      loyal = d.loyal;
      off = on-push w j p ∙ or_from (on w p) (j == p) d.off (ne_eqb j p ne);
      some = omega arith;
      many = omega arith;
    }

-- Proves that p himself and a traitor are among the generals who are not on the label.
two_others : (t : ℕ → Bool) (n k : ℕ) (w : List ℕ) (p : ℕ) → Denied t n k w p → 2 ≤ length (others n w)
two_others t n k w p d =
    let fewer : count_by t (others n w) ≡ cond (t p) 1 0 + count_by t (others n (w ++ p ∷ [])) = others-split (λ y. cond (t y) 1 0) n w p d.within d.off in
    let same : count_by t (others n w) ≡ cond false 1 0 + count_by t (others n (w ++ p ∷ [])) = rw d.loyal at fewer in
    let shorter : length (others n w) ≡ 1 + length (others n (w ++ p ∷ [])) = others-length n w p d.within d.off in
    let some = d.some in
    omega (arith, count_by-le-length t (others n (w ++ p ∷ [])))

gone : (t : ℕ → Bool) (n k : ℕ) (w : List ℕ) (p : ℕ) → Denied t n (suc k) w p → om majority n (denial t) (suc k) w p ≡ 0
gone t n zero w p d =
    om-step t n zero w p ∙ majority_zero (map (entry t n zero w p) (others n w)) (λ v ne.
    let few : count_by (λ x. x == v) (map (entry t n zero w p) (others n w)) + count_by t (others n w) ≤ length (others n w) = zeros t (entry t n zero w p) v (others n w) ne (λ j i bad. bad_entry t n zero w p j d.loyal bad) in
    let many = d.many in
    rw length-map (omega arith))
gone t n (suc k) w p d =
    let each : (j : ℕ) → on (others n w) j ≡ true → not (j == p) ≡ true → entry t n (suc k) w p j ≡ 0 =
    λ j i apart. elim (cases_Bool (t j)) [
      | inl bad ↦ bad_entry t n (suc k) w p j d.loyal bad
      | inr good ↦
          cond-false (j == p) (taken (denial t) w p) (om majority n (denial t) (suc k) (w ++ j ∷ []) p) (not-true (j == p) apart)
          ∙ gone t n k (w ++ j ∷ []) p (denied-push t n (suc k) w p j d good (others-on n w j i) (eqb-false j p (not-true (j == p) apart)))
    ]
    in
    om-step t n (suc k) w p ∙ majority_zero (map (entry t n (suc k) w p) (others n w)) (λ v ne.
    let few : count_by (λ x. x == v) (map (entry t n (suc k) w p) (others n w)) + count_by (λ j. not (j == p)) (others n w) ≤ length (others n w) = zeros (λ j. not (j == p)) (entry t n (suc k) w p) v (others n w) ne each in
    let two : 2 ≤ length (others n w) = two_others t n (suc (suc k)) w p d in
    let rest : length (others n w) ≤ count_by (λ j. not (j == p)) (others n w) + 1 = all_but p (others n w) (others-distinct n w) in
    rw length-map (omega arith))

disobeyed : (n c m p : ℕ) (traitor : ℕ → Bool) → IsOutvoted n c m traitor → IsLoyalLieutenant n c traitor p → om majority n (denial traitor) m (c ∷ []) p ≡ 0
disobeyed n c zero p t out l = let relays = out.relays in absurd (omega arith)
disobeyed n c (suc m) p t out l =
    let count : count_by t (generals n) ≡ cond (t c) 1 0 + count_by t (others n (c ∷ [])) = ap (count_by t) (sym (all_kept (generals n))) ∙ others-split (λ y. cond (t y) 1 0) n [] c out.commander refl in
    let same : count_by t (generals n) ≡ cond false 1 0 + count_by t (others n (c ∷ [])) = rw out.loyal at count in
    let size : n ≡ 1 + length (others n (c ∷ [])) = sym (length-range_with_len 0 n) ∙ (ap length (sym (all_kept (generals n))) ∙ others-length n [] c out.commander refl) in
    let some = out.some in
    let many = out.many in
    gone t n m (c ∷ []) p (record {
      clean = or_from (t c) false out.loyal refl;
      within = l.general;
      loyal = l.loyal;
      off = or_from (c == p) false (ne_eqb c p (λ e. l.lieutenant (sym e))) refl;
      some = omega arith;
      many = omega arith;
    })

pub proved_denial_breaks : DenialBreaks
proved_denial_breaks = record { faithful = faithful; disobeyed = disobeyed }
