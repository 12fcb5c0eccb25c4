-- The agreement theorem (TOPLAS 1982, Lemma 1 and Theorem 1), shown for a label u.g: g has just relayed u, and k relays
-- remain.
use Rattle.std.proofs.Common.{ℕ, zero, suc, ◌+◌, ◌*◌, ◌<◌, ◌≤◌, ◌≡◌, ◌≢◌, Bool, true, false, cond, List, [], ◌∷◌, ◌++◌, map, length, refl, sym, ap, ◌∙◌, arith, inl, inr, length-append}
use Rattle.std.specs.Prelude.{count_by, ◌==◌}
use Rattle.std.proofs.lemmas.Bool.Decides.{nat_tests, eqb_tells}
use Rattle.std.proofs.lemmas.Bool.{cases_Bool, or_from, ne_eqb, cond-true, cond-false}
use Rattle.std.proofs.lemmas.List.FromFn.{length-range_with_len}
use Rattle.std.proofs.lemmas.List.{length-map}
use Rattle.combine.specs.Rule.{IsMajorityRule}
use Rattle.label.specs.Labels.{on, generals, others}
use Rattle.label.specs.Oral.{IsLabel, Messages, taken, heard, order_of, om, IsFaithful, IsLoyalLieutenant}
use Rattle.book.specs.Theorem.{AgreementHolds}
use Rattle.label.proofs.Pushes.{IsLabel-push, heard-push}
use Rattle.label.proofs.Counting.{on-push, others-on, others-split, others-length, majority_counts, map_agree}
use Rattle.label.proofs.Ranks.{all_kept}

-- A whole campaign.
pub record Campaign : Type 0 where
  pub rule : List ℕ → ℕ
  pub law : IsMajorityRule rule
  pub n : ℕ
  pub c : ℕ
  pub m : ℕ
  pub order : ℕ
  pub traitor : ℕ → Bool
  pub M : Messages
  pub faithful : (g : ℕ) → g < n → traitor g ≡ false → IsFaithful n c m order M g

-- p is a loyal receiver of w.
pub record Receives (x : Campaign) (w : List ℕ) (p : ℕ) : Type 0 where
  pub within : p < x.n
  pub loyal : x.traitor p ≡ false
  pub off : on w p ≡ false

-- g relays u, and k relays remain after his.
pub record Reached (x : Campaign) (u : List ℕ) (g k : ℕ) : Type 0 where
  pub label : IsLabel x.n x.c (u ++ g ∷ [])
  pub time : length u + k ≤ x.m
  pub within : g < x.n

-- The same, and g is loyal.
pub record Relayed (x : Campaign) (u : List ℕ) (g k : ℕ) : Type 0 where
  pub reached : Reached x u g k
  pub loyal : x.traitor g ≡ false

reached-push : (x : Campaign) (u : List ℕ) (g j k : ℕ) → Reached x u g (suc k) → j < x.n → on (u ++ g ∷ []) j ≡ false → Reached x (u ++ g ∷ []) j k
reached-push x u g j k r l o = record {
  label = IsLabel-push r.label j l o;
  time = let t = r.time in omega (arith, length-append u (g ∷ []));
  within = l;
}

receives-push : (x : Campaign) (w : List ℕ) (j p : ℕ) → Receives x w p → j ≢ p → Receives x (w ++ j ∷ []) p
receives-push x w j p r ne = record {
  within = r.within;
  loyal = r.loyal;
  off = let o = r.off in grind (arith, nat_tests, on-push w j p);
}

abbrev entry : (x : Campaign) → ℕ → List ℕ → ℕ → ℕ → ℕ
entry x k w p j = cond (j == p) (taken x.M w p) (om x.rule x.n x.M k (w ++ j ∷ []) p)

om-step : (x : Campaign) (k : ℕ) (w : List ℕ) (p : ℕ) → om x.rule x.n x.M (suc k) w p ≡ x.rule (map (entry x k w p) (others x.n w))
unfolding om
om-step x k w p = refl

om-last : (x : Campaign) (w : List ℕ) (p : ℕ) → om x.rule x.n x.M zero w p ≡ taken x.M w p
unfolding om
om-last x w p = refl

-- What a loyal general relays is received.
told : (x : Campaign) (u : List ℕ) (g k p : ℕ) → Relayed x u g k → Receives x (u ++ g ∷ []) p → taken x.M (u ++ g ∷ []) p ≡ heard x.M x.order u g
told x u g k p r q = ap order_of (x.faithful g r.reached.within r.loyal u p r.reached.label (let t = r.reached.time in omega arith) q.within q.off)

valid_entry : (x : Campaign) (k a : ℕ) (u : List ℕ) (g p j : ℕ) → Relayed x u g (suc k) → count_by x.traitor (others x.n (u ++ g ∷ [])) ≤ a → 2 * a + suc k ≤ length (others x.n (u ++ g ∷ [])) → Receives x (u ++ g ∷ []) p → (j < x.n) × (on (u ++ g ∷ []) j ≡ false) → x.traitor j ≡ false
    → (Relayed x (u ++ g ∷ []) j k → count_by x.traitor (others x.n ((u ++ g ∷ []) ++ j ∷ [])) ≤ a → 2 * a + k ≤ length (others x.n ((u ++ g ∷ []) ++ j ∷ [])) → Receives x ((u ++ g ∷ []) ++ j ∷ []) p → om x.rule x.n x.M k ((u ++ g ∷ []) ++ j ∷ []) p ≡ heard x.M x.order (u ++ g ∷ []) j)
    → entry x k (u ++ g ∷ []) p j ≡ heard x.M x.order u g
valid_entry x k a u g p j r few many q i loyal ih =
    elim (eqb_tells j p) [
      | inl same ↦ cond-true (j == p) (taken x.M (u ++ g ∷ []) p) (om x.rule x.n x.M k ((u ++ g ∷ []) ++ j ∷ []) p) same.0 ∙ told x u g (suc k) p r q
      | inr apart ↦
          let fewer : count_by x.traitor (others x.n (u ++ g ∷ [])) ≡ cond (x.traitor j) 1 0 + count_by x.traitor (others x.n ((u ++ g ∷ []) ++ j ∷ [])) = others-split (λ y. cond (x.traitor y) 1 0) x.n (u ++ g ∷ []) j i.0 i.1 in
          let shorter : length (others x.n (u ++ g ∷ [])) ≡ 1 + length (others x.n ((u ++ g ∷ []) ++ j ∷ [])) = others-length x.n (u ++ g ∷ []) j i.0 i.1 in
          let rj : Receives x (u ++ g ∷ []) j = record { within = i.0; loyal = loyal; off = i.1 } in
          cond-false (j == p) (taken x.M (u ++ g ∷ []) p) (om x.rule x.n x.M k ((u ++ g ∷ []) ++ j ∷ []) p) apart.0
          ∙ (ih (record { reached = reached-push x u g j k r.reached i.0 i.1; loyal = loyal }) (omega arith) (omega arith) (receives-push x (u ++ g ∷ []) j p q apart.1)
          ∙ (heard-push x.M x.order u g j ∙ told x u g (suc k) j r rj))
    ]

-- Lemma 1 of TOPLAS 1982: for every k and a, OM(k) satisfies IC2 if there are more than 2a + k generals and at most a
-- traitors. The last general on the label is loyal, so all loyal receivers decide on what he took, whatever the others
-- do, of whom at most a are traitors.
pub valid : (x : Campaign) (k a : ℕ) (u : List ℕ) (g p : ℕ) → Relayed x u g k → count_by x.traitor (others x.n (u ++ g ∷ [])) ≤ a → 2 * a + k ≤ length (others x.n (u ++ g ∷ [])) → Receives x (u ++ g ∷ []) p → om x.rule x.n x.M k (u ++ g ∷ []) p ≡ heard x.M x.order u g
valid x zero a u g p r few many q = om-last x (u ++ g ∷ []) p ∙ told x u g zero p r q
valid x (suc k) a u g p r few many q =
    let w : List ℕ = u ++ g ∷ [] in
    let says : (j : ℕ) → on (others x.n (u ++ g ∷ [])) j ≡ true → x.traitor j ≡ false → entry x k (u ++ g ∷ []) p j ≡ heard x.M x.order u g =
    λ j i loyal. valid_entry x k a u g p j r few many q (others-on x.n (u ++ g ∷ []) j i) loyal (λ r' few' many' q'. valid x k a (u ++ g ∷ []) j p r' few' many' q')
    in
    let c : length (others x.n (u ++ g ∷ [])) ≤ count_by (λ y. y == heard x.M x.order u g) (map (entry x k (u ++ g ∷ []) p) (others x.n (u ++ g ∷ []))) + count_by x.traitor (others x.n (u ++ g ∷ [])) = majority_counts x.traitor (entry x k (u ++ g ∷ []) p) (heard x.M x.order u g) (others x.n (u ++ g ∷ [])) says in
    let most : length (map (entry x k (u ++ g ∷ []) p) (others x.n (u ++ g ∷ []))) < 2 * count_by (λ y. y == heard x.M x.order u g) (map (entry x k (u ++ g ∷ []) p) (others x.n (u ++ g ∷ []))) = rw length-map (omega arith) in
    om-step x k (u ++ g ∷ []) p ∙ x.law (map (entry x k (u ++ g ∷ []) p) (others x.n (u ++ g ∷ []))) (heard x.M x.order u g) most

alike_loyal : (x : Campaign) (k : ℕ) (u : List ℕ) (g p q : ℕ) → Reached x u g k → x.traitor g ≡ false → count_by x.traitor (others x.n (u ++ g ∷ [])) ≤ k → 3 * k ≤ length (others x.n (u ++ g ∷ [])) → Receives x (u ++ g ∷ []) p → Receives x (u ++ g ∷ []) q → om x.rule x.n x.M k (u ++ g ∷ []) p ≡ om x.rule x.n x.M k (u ++ g ∷ []) q
alike_loyal x k u g p q r good few many rp rq =
    let rel : Relayed x u g k = record { reached = r; loyal = good } in
    valid x k k u g p rel few (omega arith) rp ∙ sym (valid x k k u g q rel few (omega arith) rq)

-- What p received for w, and what another general holds for him.
own_entry : (x : Campaign) (k : ℕ) (u : List ℕ) (g p q : ℕ) → Reached x u g (suc k) → count_by x.traitor (others x.n (u ++ g ∷ [])) ≤ k → 3 * suc k ≤ length (others x.n (u ++ g ∷ [])) → Receives x (u ++ g ∷ []) p → Receives x (u ++ g ∷ []) q → p ≢ q → om x.rule x.n x.M k ((u ++ g ∷ []) ++ p ∷ []) q ≡ taken x.M (u ++ g ∷ []) p
own_entry x k u g p q r few many rp rq ne =
    let fewer : count_by x.traitor (others x.n (u ++ g ∷ [])) ≡ cond (x.traitor p) 1 0 + count_by x.traitor (others x.n ((u ++ g ∷ []) ++ p ∷ [])) = others-split (λ y. cond (x.traitor y) 1 0) x.n (u ++ g ∷ []) p rp.within rp.off in
    let shorter : length (others x.n (u ++ g ∷ [])) ≡ 1 + length (others x.n ((u ++ g ∷ []) ++ p ∷ [])) = others-length x.n (u ++ g ∷ []) p rp.within rp.off in
    valid x k k (u ++ g ∷ []) p q (record { reached = reached-push x u g p k r rp.within rp.off; loyal = rp.loyal }) (omega arith) (omega arith) (receives-push x (u ++ g ∷ []) p q rq ne) ∙ heard-push x.M x.order u g p

same_entry : (x : Campaign) (k : ℕ) (u : List ℕ) (g p q j : ℕ) → Reached x u g (suc k) → count_by x.traitor (others x.n (u ++ g ∷ [])) ≤ k → 3 * suc k ≤ length (others x.n (u ++ g ∷ [])) → Receives x (u ++ g ∷ []) p → Receives x (u ++ g ∷ []) q → (j < x.n) × (on (u ++ g ∷ []) j ≡ false)
    → (Reached x (u ++ g ∷ []) j k → cond (x.traitor j) 1 0 + count_by x.traitor (others x.n ((u ++ g ∷ []) ++ j ∷ [])) ≤ k → 3 * k ≤ length (others x.n ((u ++ g ∷ []) ++ j ∷ [])) → Receives x ((u ++ g ∷ []) ++ j ∷ []) p → Receives x ((u ++ g ∷ []) ++ j ∷ []) q → om x.rule x.n x.M k ((u ++ g ∷ []) ++ j ∷ []) p ≡ om x.rule x.n x.M k ((u ++ g ∷ []) ++ j ∷ []) q)
    → entry x k (u ++ g ∷ []) p j ≡ entry x k (u ++ g ∷ []) q j
same_entry x k u g p q j r few many rp rq i ih =
    elim (eqb_tells j p) [
      | inl jp ↦ elim (eqb_tells j q) [
        | inl jq ↦ let e : p ≡ q = sym jp.1 ∙ jq.1 in rw e
        | inr jq ↦
            rw (cond-true (j == p) (taken x.M (u ++ g ∷ []) p) (om x.rule x.n x.M k ((u ++ g ∷ []) ++ j ∷ []) p) jp.0, cond-false (j == q) (taken x.M (u ++ g ∷ []) q) (om x.rule x.n x.M k ((u ++ g ∷ []) ++ j ∷ []) q) jq.0, jp.1)
            (sym (own_entry x k u g p q r few many rp rq (λ e. jq.1 (jp.1 ∙ e))))
      ]
      | inr jp ↦ elim (eqb_tells j q) [
        | inl jq ↦
            rw (cond-false (j == p) (taken x.M (u ++ g ∷ []) p) (om x.rule x.n x.M k ((u ++ g ∷ []) ++ j ∷ []) p) jp.0, cond-true (j == q) (taken x.M (u ++ g ∷ []) q) (om x.rule x.n x.M k ((u ++ g ∷ []) ++ j ∷ []) q) jq.0, jq.1)
            (own_entry x k u g q p r few many rq rp (λ e. jp.1 (jq.1 ∙ e)))
        | inr jq ↦
            let fewer : count_by x.traitor (others x.n (u ++ g ∷ [])) ≡ cond (x.traitor j) 1 0 + count_by x.traitor (others x.n ((u ++ g ∷ []) ++ j ∷ [])) = others-split (λ y. cond (x.traitor y) 1 0) x.n (u ++ g ∷ []) j i.0 i.1 in
            let shorter : length (others x.n (u ++ g ∷ [])) ≡ 1 + length (others x.n ((u ++ g ∷ []) ++ j ∷ [])) = others-length x.n (u ++ g ∷ []) j i.0 i.1 in
            rw (cond-false (j == p) (taken x.M (u ++ g ∷ []) p) (om x.rule x.n x.M k ((u ++ g ∷ []) ++ j ∷ []) p) jp.0, cond-false (j == q) (taken x.M (u ++ g ∷ []) q) (om x.rule x.n x.M k ((u ++ g ∷ []) ++ j ∷ []) q) jq.0)
            (ih (reached-push x u g j k r i.0 i.1) (omega arith) (omega arith) (receives-push x (u ++ g ∷ []) j p rp jp.1) (receives-push x (u ++ g ∷ []) j q rq jq.1))
      ]
    ]

-- Theorem 1 of TOPLAS 1982 for IC1: for every k, OM(k) satisfies IC1 and IC2 if there are more than 3k generals and at
-- most k traitors. The loyal receivers decide alike. If the last general on the label is loyal, this is Lemma 1.
-- Otherwise there is one traitor fewer among the others, who relay next.
pub alike : (x : Campaign) (k : ℕ) (u : List ℕ) (g p q : ℕ) → Reached x u g k → cond (x.traitor g) 1 0 + count_by x.traitor (others x.n (u ++ g ∷ [])) ≤ k → 3 * k ≤ length (others x.n (u ++ g ∷ [])) → Receives x (u ++ g ∷ []) p → Receives x (u ++ g ∷ []) q → om x.rule x.n x.M k (u ++ g ∷ []) p ≡ om x.rule x.n x.M k (u ++ g ∷ []) q
alike x zero u g p q r few many rp rq = elim (cases_Bool (x.traitor g)) [ inl bad ↦ absurd (let few' : cond true 1 0 + count_by x.traitor (others x.n (u ++ g ∷ [])) ≤ zero = rw bad at few in omega arith) | inr good ↦ alike_loyal x zero u g p q r good (let few' : cond false 1 0 + count_by x.traitor (others x.n (u ++ g ∷ [])) ≤ zero = rw good at few in omega arith) many rp rq ]
alike x (suc k) u g p q r few many rp rq =
    elim (cases_Bool (x.traitor g)) [
      | inl bad ↦
          let few' : count_by x.traitor (others x.n (u ++ g ∷ [])) ≤ k = let h : cond true 1 0 + count_by x.traitor (others x.n (u ++ g ∷ [])) ≤ suc k = rw bad at few in omega arith in
          om-step x k (u ++ g ∷ []) p
          ∙ (ap x.rule (map_agree (entry x k (u ++ g ∷ []) p) (entry x k (u ++ g ∷ []) q) (others x.n (u ++ g ∷ []))
          (λ j i. same_entry x k u g p q j r few' many rp rq (others-on x.n (u ++ g ∷ []) j i) (λ r' few'' many' rp' rq'. alike x k (u ++ g ∷ []) j p q r' few'' many' rp' rq')))
          ∙ sym (om-step x k (u ++ g ∷ []) q))
      | inr good ↦ alike_loyal x (suc k) u g p q r good (let h : cond false 1 0 + count_by x.traitor (others x.n (u ++ g ∷ [])) ≤ suc k = rw good at few in omega arith) many rp rq
    ]

-- The whole campaign: Theorem 1 at the commander's label.
start : (x : Campaign) (k : ℕ) → x.c < x.n → k ≤ x.m → Reached x [] x.c k
start x k inside le = record { label = record { first = refl; below = (inside, tt); distinct = refl }; time = omega arith; within = inside }

receiver : (x : Campaign) (p : ℕ) → IsLoyalLieutenant x.n x.c x.traitor p → Receives x (x.c ∷ []) p
receiver x p l = record { within = l.general; loyal = l.loyal; off = or_from (x.c == p) false (ne_eqb x.c p (λ e. l.lieutenant (sym e))) refl }

-- Theorem 1: IC1 by `alike`, IC2 by Lemma 1
pub holds : AgreementHolds
holds f law n c m order traitor M inside bound faithful =
    let x : Campaign = record { rule = f; law = law; n = n; c = c; m = m; order = order; traitor = traitor; M = M; faithful = faithful } in
    let count : count_by traitor (generals n) ≡ cond (traitor c) 1 0 + count_by traitor (others n (c ∷ [])) = ap (count_by traitor) (sym (all_kept (generals n))) ∙ others-split (λ y. cond (traitor y) 1 0) n [] c inside refl in
    let size : n ≡ 1 + length (others n (c ∷ [])) = sym (length-range_with_len 0 n) ∙ (ap length (sym (all_kept (generals n))) ∙ others-length n [] c inside refl) in
    let enough : 3 * m < n = bound.enough in
    let few : count_by traitor (generals n) ≤ m = bound.few in
    record {
      alike = λ p q lp lq. alike x m [] c p q (start x m inside (omega arith)) (omega arith) (omega arith) (receiver x p lp) (receiver x q lq);
      obeyed = λ good p lp. valid x m m [] c p (record { reached = start x m inside (omega arith); loyal = good }) (omega arith) (omega arith) (receiver x p lp);
    }
