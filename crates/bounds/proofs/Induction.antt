-- The tolerance of OM(m), by induction over a label u.g: general g has just relayed u, and up to k further generals
-- can extend the label (TOPLAS 1982, Lemma 1 and Theorem 1).
use Rattle.std.proofs.Common.{ℕ, zero, suc, ◌+◌, ◌*◌, ◌<◌, ◌≤◌, ◌≡◌, ◌≢◌, Bool, true, false, cond, List, [], ◌∷◌, ◌++◌, map, length, refl, sym, ap, ◌∙◌, arith, inl, inr, length-append}
use Rattle.std.specs.Prelude.{count_by, ◌==◌, ◌⊎◌}
use Rattle.std.proofs.lemmas.Bool.Decides.{nat_tests, eqb_tells}
use Rattle.std.proofs.lemmas.Bool.{cases_Bool, or_from, ne_eqb, cond-true, cond-false}
use Rattle.std.proofs.lemmas.List.FromFn.{length-range_with_len}
use Rattle.std.proofs.lemmas.List.{length-map}
use Rattle.combine.specs.Rule.{IsMajorityRule}
use Rattle.label.specs.Labels.{on, generals, others}
use Rattle.label.specs.Oral.{IsLabel, Messages, taken, heard, order_of, om, IsFaithful, IsLoyalLieutenant, Agree}
use Rattle.bounds.specs.Tolerance.{ToleranceHolds, BoundIsTolerable}
use Rattle.label.proofs.Pushes.{IsLabel-push, heard-push}
use Rattle.label.proofs.Counting.{on-push, others-on, others-split, others-length, majority_counts, map_agree}
use Rattle.label.proofs.Ranks.{all_kept}

-- A campaign with all that the induction assumes of it.
pub record Campaign : Type 0 where
  pub rule : List ℕ → ℕ
  pub law : IsMajorityRule rule
  pub n : ℕ
  pub c : ℕ
  pub m : ℕ
  pub order : ℕ
  pub traitor : ℕ → Bool
  pub M : Messages
  pub faithful : (g : ℕ) → g < n → traitor g ≡ false → IsFaithful n c m order M g

-- States that p is a loyal receiver of the label w.
pub record Receives (x : Campaign) (w : List ℕ) (p : ℕ) : Type 0 where
  pub within : p < x.n
  pub loyal : x.traitor p ≡ false
  pub off : on w p ≡ false

-- States that g relays u, and up to k further generals can extend the label after him.
pub record Reached (x : Campaign) (u : List ℕ) (g k : ℕ) : Type 0 where
  pub label : IsLabel x.n x.c (u ++ g ∷ [])
  pub time : length u + k ≤ x.m
  pub within : g < x.n

-- States that g, who relays u, is loyal.
pub record Relayed (x : Campaign) (u : List ℕ) (g k : ℕ) : Type 0 where
  pub reached : Reached x u g k
  pub loyal : x.traitor g ≡ false

reached-push : (x : Campaign) (u : List ℕ) (g j k : ℕ) → Reached x u g (suc k) → j < x.n → on (u ++ g ∷ []) j ≡ false → Reached x (u ++ g ∷ []) j k
reached-push x u g j k r l o = record {
  label = IsLabel-push r.label j l o;
  time = let t = r.time in omega (arith, length-append u (g ∷ []));
  within = l;
}

receives-push : (x : Campaign) (w : List ℕ) (j p : ℕ) → Receives x w p → j ≢ p → Receives x (w ++ j ∷ []) p
receives-push x w j p r ne = record {
  within = r.within;
  loyal = r.loyal;
  off = let o = r.off in grind (arith, nat_tests, on-push w j p);
}

abbrev entry : (x : Campaign) → ℕ → List ℕ → ℕ → ℕ → ℕ
entry x k w p j = cond (j == p) (taken x.M w p) (om x.rule x.n x.M k (w ++ j ∷ []) p)

om-step : (x : Campaign) (k : ℕ) (w : List ℕ) (p : ℕ) → om x.rule x.n x.M (suc k) w p ≡ x.rule (map (entry x k w p) (others x.n w))
unfolding om
om-step x k w p = refl

om-last : (x : Campaign) (w : List ℕ) (p : ℕ) → om x.rule x.n x.M zero w p ≡ taken x.M w p
unfolding om
om-last x w p = refl

-- Proves that a loyal receiver receives what a loyal general relays.
received : (x : Campaign) (u : List ℕ) (g k p : ℕ) → Relayed x u g k → Receives x (u ++ g ∷ []) p → taken x.M (u ++ g ∷ []) p ≡ heard x.M x.order u g
received x u g k p r q = ap order_of (x.faithful g r.reached.within r.loyal u p r.reached.label (let t = r.reached.time in omega arith) q.within q.off)

-- States that `a` traitors among `all` other generals are few enough for k further relays: there are none, or there
-- are at least 2a + k other generals.
abbrev IsEnough : ℕ → ℕ → ℕ → Type 0
IsEnough a k all = (a ≡ 0) ⊎ (2 * a + k ≤ all)

enough-less : (a k all left : ℕ) → all ≡ 1 + left → IsEnough a (suc k) all → IsEnough a k left
enough-less a k all left e (inl none) = inl none
enough-less a k all left e (inr many) = inr (omega arith)

enough-most : (a k all : ℕ) → 1 ≤ all → IsEnough a (suc k) all → 2 * a < all
enough-most a k all some (inl none) = omega arith
enough-most a k all some (inr many) = omega arith

valid_entry : (x : Campaign) (k a : ℕ) (u : List ℕ) (g p j : ℕ) → Relayed x u g (suc k) → count_by x.traitor (others x.n (u ++ g ∷ [])) ≤ a → IsEnough a (suc k) (length (others x.n (u ++ g ∷ []))) → Receives x (u ++ g ∷ []) p → (j < x.n) × (on (u ++ g ∷ []) j ≡ false) → x.traitor j ≡ false
    → (Relayed x (u ++ g ∷ []) j k → count_by x.traitor (others x.n ((u ++ g ∷ []) ++ j ∷ [])) ≤ a → IsEnough a k (length (others x.n ((u ++ g ∷ []) ++ j ∷ []))) → Receives x ((u ++ g ∷ []) ++ j ∷ []) p → om x.rule x.n x.M k ((u ++ g ∷ []) ++ j ∷ []) p ≡ heard x.M x.order (u ++ g ∷ []) j)
    → entry x k (u ++ g ∷ []) p j ≡ heard x.M x.order u g
valid_entry x k a u g p j r few many q i loyal ih =
    elim (eqb_tells j p) [
      | inl same ↦ cond-true (j == p) (taken x.M (u ++ g ∷ []) p) (om x.rule x.n x.M k ((u ++ g ∷ []) ++ j ∷ []) p) same.0 ∙ received x u g (suc k) p r q
      | inr apart ↦
          let fewer : count_by x.traitor (others x.n (u ++ g ∷ [])) ≡ cond (x.traitor j) 1 0 + count_by x.traitor (others x.n ((u ++ g ∷ []) ++ j ∷ [])) = others-split (λ y. cond (x.traitor y) 1 0) x.n (u ++ g ∷ []) j i.0 i.1 in
          let shorter : length (others x.n (u ++ g ∷ [])) ≡ 1 + length (others x.n ((u ++ g ∷ []) ++ j ∷ [])) = others-length x.n (u ++ g ∷ []) j i.0 i.1 in
          let rj : Receives x (u ++ g ∷ []) j = record { within = i.0; loyal = loyal; off = i.1 } in
          cond-false (j == p) (taken x.M (u ++ g ∷ []) p) (om x.rule x.n x.M k ((u ++ g ∷ []) ++ j ∷ []) p) apart.0
          ∙ (ih (record { reached = reached-push x u g j k r.reached i.0 i.1; loyal = loyal }) (omega arith) (enough-less a k (length (others x.n (u ++ g ∷ []))) (length (others x.n ((u ++ g ∷ []) ++ j ∷ []))) shorter many) (receives-push x (u ++ g ∷ []) j p q apart.1)
          ∙ (heard-push x.M x.order u g j ∙ received x u g (suc k) j r rj))
    ]

-- Proves Lemma 1 of TOPLAS 1982: for every k and a, OM(k) meets IC2 if there are more than 2a + k generals and at
-- most a traitors. The last general of the label is loyal, so all loyal receivers decide on the order that he took,
-- whatever up to a traitors among the others send.
pub valid : (x : Campaign) (k a : ℕ) (u : List ℕ) (g p : ℕ) → Relayed x u g k → count_by x.traitor (others x.n (u ++ g ∷ [])) ≤ a → IsEnough a k (length (others x.n (u ++ g ∷ []))) → Receives x (u ++ g ∷ []) p → om x.rule x.n x.M k (u ++ g ∷ []) p ≡ heard x.M x.order u g
valid x zero a u g p r few many q = om-last x (u ++ g ∷ []) p ∙ received x u g zero p r q
valid x (suc k) a u g p r few many q =
    let w : List ℕ = u ++ g ∷ [] in
    let says : (j : ℕ) → on (others x.n (u ++ g ∷ [])) j ≡ true → x.traitor j ≡ false → entry x k (u ++ g ∷ []) p j ≡ heard x.M x.order u g =
    λ j i loyal. valid_entry x k a u g p j r few many q (others-on x.n (u ++ g ∷ []) j i) loyal (λ r' few' many' q'. valid x k a (u ++ g ∷ []) j p r' few' many' q')
    in
    let c : length (others x.n (u ++ g ∷ [])) ≤ count_by (λ y. y == heard x.M x.order u g) (map (entry x k (u ++ g ∷ []) p) (others x.n (u ++ g ∷ []))) + count_by x.traitor (others x.n (u ++ g ∷ [])) = majority_counts x.traitor (entry x k (u ++ g ∷ []) p) (heard x.M x.order u g) (others x.n (u ++ g ∷ [])) says in
    let own : length (others x.n (u ++ g ∷ [])) ≡ 1 + length (others x.n ((u ++ g ∷ []) ++ p ∷ [])) = others-length x.n (u ++ g ∷ []) p q.within q.off in
    let enough : 2 * a < length (others x.n (u ++ g ∷ [])) = enough-most a k (length (others x.n (u ++ g ∷ []))) (omega arith) many in
    let most : length (map (entry x k (u ++ g ∷ []) p) (others x.n (u ++ g ∷ []))) < 2 * count_by (λ y. y == heard x.M x.order u g) (map (entry x k (u ++ g ∷ []) p) (others x.n (u ++ g ∷ []))) = rw length-map (omega arith) in
    om-step x k (u ++ g ∷ []) p ∙ x.law (map (entry x k (u ++ g ∷ []) p) (others x.n (u ++ g ∷ []))) (heard x.M x.order u g) most

-- States that with k further relays at most k of the generals are traitors, and the number of other generals is at
-- least twice the number of traitors plus k.
record Fits (x : Campaign) (u : List ℕ) (g k : ℕ) : Type 0 where
  few : cond (x.traitor g) 1 0 + count_by x.traitor (others x.n (u ++ g ∷ [])) ≤ k
  many : 2 * (cond (x.traitor g) 1 0 + count_by x.traitor (others x.n (u ++ g ∷ []))) + k ≤ length (others x.n (u ++ g ∷ []))

good_many : (x : Campaign) (k : ℕ) (u : List ℕ) (g : ℕ) → x.traitor g ≡ false → Fits x u g k → 2 * count_by x.traitor (others x.n (u ++ g ∷ [])) + k ≤ length (others x.n (u ++ g ∷ []))
good_many x k u g good fits = let h : 2 * (cond false 1 0 + count_by x.traitor (others x.n (u ++ g ∷ []))) + k ≤ length (others x.n (u ++ g ∷ [])) = rw good at fits.many in omega arith

alike_loyal : (x : Campaign) (k : ℕ) (u : List ℕ) (g p q : ℕ) → Reached x u g k → x.traitor g ≡ false → Fits x u g k → Receives x (u ++ g ∷ []) p → Receives x (u ++ g ∷ []) q → om x.rule x.n x.M k (u ++ g ∷ []) p ≡ om x.rule x.n x.M k (u ++ g ∷ []) q
alike_loyal x k u g p q r good fits rp rq =
    let rel : Relayed x u g k = record { reached = r; loyal = good } in
    let many : 2 * count_by x.traitor (others x.n (u ++ g ∷ [])) + k ≤ length (others x.n (u ++ g ∷ [])) = good_many x k u g good fits in
    let t : ℕ = count_by x.traitor (others x.n (u ++ g ∷ [])) in
    valid x k t u g p rel (omega arith) (inr many) rp ∙ sym (valid x k t u g q rel (omega arith) (inr many) rq)

-- States that after a traitor on the label there is one traitor fewer among the others.
record Betrayed (x : Campaign) (u : List ℕ) (g k : ℕ) : Type 0 where
  few : count_by x.traitor (others x.n (u ++ g ∷ [])) ≤ k
  many : 2 * count_by x.traitor (others x.n (u ++ g ∷ [])) + k + 3 ≤ length (others x.n (u ++ g ∷ []))

betrayed : (x : Campaign) (k : ℕ) (u : List ℕ) (g : ℕ) → x.traitor g ≡ true → Fits x u g (suc k) → Betrayed x u g k
betrayed x k u g bad fits =
    let few : cond true 1 0 + count_by x.traitor (others x.n (u ++ g ∷ [])) ≤ suc k = rw bad at fits.few in
    let many : 2 * (cond true 1 0 + count_by x.traitor (others x.n (u ++ g ∷ []))) + suc k ≤ length (others x.n (u ++ g ∷ [])) = rw bad at fits.many in
    record { few = omega arith; many = omega arith }

fits-push : (x : Campaign) (k : ℕ) (u : List ℕ) (g j : ℕ) → Betrayed x u g k → j < x.n → on (u ++ g ∷ []) j ≡ false → Fits x (u ++ g ∷ []) j k
fits-push x k u g j b l o =
    let fewer : count_by x.traitor (others x.n (u ++ g ∷ [])) ≡ cond (x.traitor j) 1 0 + count_by x.traitor (others x.n ((u ++ g ∷ []) ++ j ∷ [])) = others-split (λ y. cond (x.traitor y) 1 0) x.n (u ++ g ∷ []) j l o in
    let shorter : length (others x.n (u ++ g ∷ [])) ≡ 1 + length (others x.n ((u ++ g ∷ []) ++ j ∷ [])) = others-length x.n (u ++ g ∷ []) j l o in
    let few = b.few in
    let many = b.many in
    record { few = omega arith; many = omega arith }

-- Proves that p's own order for the label is what another loyal general decides about p's relay of it.
own_entry : (x : Campaign) (k : ℕ) (u : List ℕ) (g p q : ℕ) → Reached x u g (suc k) → Betrayed x u g k → Receives x (u ++ g ∷ []) p → Receives x (u ++ g ∷ []) q → p ≢ q → om x.rule x.n x.M k ((u ++ g ∷ []) ++ p ∷ []) q ≡ taken x.M (u ++ g ∷ []) p
own_entry x k u g p q r b rp rq ne =
    let many : 2 * count_by x.traitor (others x.n ((u ++ g ∷ []) ++ p ∷ [])) + k ≤ length (others x.n ((u ++ g ∷ []) ++ p ∷ [])) = good_many x k (u ++ g ∷ []) p rp.loyal (fits-push x k u g p b rp.within rp.off) in
    valid x k (count_by x.traitor (others x.n ((u ++ g ∷ []) ++ p ∷ []))) (u ++ g ∷ []) p q (record { reached = reached-push x u g p k r rp.within rp.off; loyal = rp.loyal }) (omega arith) (inr many) (receives-push x (u ++ g ∷ []) p q rq ne) ∙ heard-push x.M x.order u g p

same_entry : (x : Campaign) (k : ℕ) (u : List ℕ) (g p q j : ℕ) → Reached x u g (suc k) → Betrayed x u g k → Receives x (u ++ g ∷ []) p → Receives x (u ++ g ∷ []) q → (j < x.n) × (on (u ++ g ∷ []) j ≡ false)
    → (Reached x (u ++ g ∷ []) j k → Fits x (u ++ g ∷ []) j k → Receives x ((u ++ g ∷ []) ++ j ∷ []) p → Receives x ((u ++ g ∷ []) ++ j ∷ []) q → om x.rule x.n x.M k ((u ++ g ∷ []) ++ j ∷ []) p ≡ om x.rule x.n x.M k ((u ++ g ∷ []) ++ j ∷ []) q)
    → entry x k (u ++ g ∷ []) p j ≡ entry x k (u ++ g ∷ []) q j
same_entry x k u g p q j r b rp rq i ih =
    elim (eqb_tells j p) [
      | inl jp ↦ elim (eqb_tells j q) [
        | inl jq ↦ let e : p ≡ q = sym jp.1 ∙ jq.1 in rw e
        | inr jq ↦
            rw (cond-true (j == p) (taken x.M (u ++ g ∷ []) p) (om x.rule x.n x.M k ((u ++ g ∷ []) ++ j ∷ []) p) jp.0, cond-false (j == q) (taken x.M (u ++ g ∷ []) q) (om x.rule x.n x.M k ((u ++ g ∷ []) ++ j ∷ []) q) jq.0, jp.1)
            (sym (own_entry x k u g p q r b rp rq (λ e. jq.1 (jp.1 ∙ e))))
      ]
      | inr jp ↦ elim (eqb_tells j q) [
        | inl jq ↦
            rw (cond-false (j == p) (taken x.M (u ++ g ∷ []) p) (om x.rule x.n x.M k ((u ++ g ∷ []) ++ j ∷ []) p) jp.0, cond-true (j == q) (taken x.M (u ++ g ∷ []) q) (om x.rule x.n x.M k ((u ++ g ∷ []) ++ j ∷ []) q) jq.0, jq.1)
            (own_entry x k u g q p r b rq rp (λ e. jp.1 (jq.1 ∙ e)))
        | inr jq ↦
            rw (cond-false (j == p) (taken x.M (u ++ g ∷ []) p) (om x.rule x.n x.M k ((u ++ g ∷ []) ++ j ∷ []) p) jp.0, cond-false (j == q) (taken x.M (u ++ g ∷ []) q) (om x.rule x.n x.M k ((u ++ g ∷ []) ++ j ∷ []) q) jq.0)
            (ih (reached-push x u g j k r i.0 i.1) (fits-push x k u g j b i.0 i.1) (receives-push x (u ++ g ∷ []) j p rp jp.1) (receives-push x (u ++ g ∷ []) j q rq jq.1))
      ]
    ]

-- Proves IC1: the loyal receivers decide alike. If the last general of the label is loyal, this is Lemma 1. Otherwise
-- one traitor fewer is among the others, who relay next.
alike : (x : Campaign) (k : ℕ) (u : List ℕ) (g p q : ℕ) → Reached x u g k → Fits x u g k → Receives x (u ++ g ∷ []) p → Receives x (u ++ g ∷ []) q → om x.rule x.n x.M k (u ++ g ∷ []) p ≡ om x.rule x.n x.M k (u ++ g ∷ []) q
alike x zero u g p q r fits rp rq = elim (cases_Bool (x.traitor g)) [ inl bad ↦ absurd (let few : cond true 1 0 + count_by x.traitor (others x.n (u ++ g ∷ [])) ≤ zero = rw bad at fits.few in omega arith) | inr good ↦ alike_loyal x zero u g p q r good fits rp rq ]
alike x (suc k) u g p q r fits rp rq =
    elim (cases_Bool (x.traitor g)) [
      | inl bad ↦
          let b : Betrayed x u g k = betrayed x k u g bad fits in
          om-step x k (u ++ g ∷ []) p
          ∙ (ap x.rule (map_agree (entry x k (u ++ g ∷ []) p) (entry x k (u ++ g ∷ []) q) (others x.n (u ++ g ∷ []))
          (λ j i. same_entry x k u g p q j r b rp rq (others-on x.n (u ++ g ∷ []) j i) (λ r' fits' rp' rq'. alike x k (u ++ g ∷ []) j p q r' fits' rp' rq')))
          ∙ sym (om-step x k (u ++ g ∷ []) q))
      | inr good ↦ alike_loyal x (suc k) u g p q r good fits rp rq
    ]

-- Proves the claim for a whole campaign, at the label of only the commander.
start : (x : Campaign) (k : ℕ) → x.c < x.n → k ≤ x.m → Reached x [] x.c k
start x k inside le = record { label = record { first = refl; below = (inside, tt); distinct = refl }; time = omega arith; within = inside }

receiver : (x : Campaign) (p : ℕ) → IsLoyalLieutenant x.n x.c x.traitor p → Receives x (x.c ∷ []) p
receiver x p l = record { within = l.general; loyal = l.loyal; off = or_from (x.c == p) false (ne_eqb x.c p (λ e. l.lieutenant (sym e))) refl }

counted : (x : Campaign) → x.c < x.n → count_by x.traitor (generals x.n) ≡ cond (x.traitor x.c) 1 0 + count_by x.traitor (others x.n (x.c ∷ []))
counted x inside = ap (count_by x.traitor) (sym (all_kept (generals x.n))) ∙ others-split (λ y. cond (x.traitor y) 1 0) x.n [] x.c inside refl

fits-start : (x : Campaign) → x.c < x.n → count_by x.traitor (generals x.n) ≤ x.m → 2 * count_by x.traitor (generals x.n) + x.m < x.n → Fits x [] x.c x.m
fits-start x inside few enough =
    let count : count_by x.traitor (generals x.n) ≡ cond (x.traitor x.c) 1 0 + count_by x.traitor (others x.n (x.c ∷ [])) = counted x inside in
    let size : x.n ≡ 1 + length (others x.n (x.c ∷ [])) = sym (length-range_with_len 0 x.n) ∙ (ap length (sym (all_kept (generals x.n))) ∙ others-length x.n [] x.c inside refl) in
    record { few = omega arith; many = omega arith }

-- Proves that without traitors all lieutenants decide on the commander's order.
all_loyal : (f : List ℕ → ℕ) → IsMajorityRule f → (n c m order : ℕ) (traitor : ℕ → Bool) (M : Messages) → c < n → count_by traitor (generals n) ≤ 0
    → ((g : ℕ) → g < n → traitor g ≡ false → IsFaithful n c m order M g) → Agree n c order traitor (om f n M m (c ∷ []))
all_loyal f law n c m order traitor M inside none faithful =
    let x : Campaign = record { rule = f; law = law; n = n; c = c; m = m; order = order; traitor = traitor; M = M; faithful = faithful } in
    let count : count_by traitor (generals n) ≡ cond (traitor c) 1 0 + count_by traitor (others n (c ∷ [])) = counted x inside in
    let good : traitor c ≡ false = elim (cases_Bool (traitor c)) [
      | inl bad ↦ absurd (let one : count_by traitor (generals n) ≡ cond true 1 0 + count_by traitor (others n (c ∷ [])) = rw bad at count in omega arith)
      | inr good ↦ good
    ]
    in
    let obeyed : (p : ℕ) → IsLoyalLieutenant n c traitor p → om f n M m (c ∷ []) p ≡ order =
    λ p lp. valid x m 0 [] c p (record { reached = start x m inside (omega arith); loyal = good }) (omega arith) (inl refl) (receiver x p lp) in
    record { alike = λ p q lp lq. obeyed p lp ∙ sym (obeyed q lq); obeyed = λ loyal p lp. obeyed p lp }

-- Proves the claim for few enough traitors: IC1 by `alike`, and IC2 by Lemma 1.
few_traitors : (f : List ℕ → ℕ) → IsMajorityRule f → (n c m order : ℕ) (traitor : ℕ → Bool) (M : Messages) → c < n → count_by traitor (generals n) ≤ m → 2 * count_by traitor (generals n) + m < n
    → ((g : ℕ) → g < n → traitor g ≡ false → IsFaithful n c m order M g) → Agree n c order traitor (om f n M m (c ∷ []))
few_traitors f law n c m order traitor M inside few enough faithful =
    let x : Campaign = record { rule = f; law = law; n = n; c = c; m = m; order = order; traitor = traitor; M = M; faithful = faithful } in
    let fits : Fits x [] c m = fits-start x inside few enough in
    record {
      alike = λ p q lp lq. alike x m [] c p q (start x m inside (omega arith)) fits (receiver x p lp) (receiver x q lq);
      obeyed = λ good p lp. valid x m (count_by traitor (others n (c ∷ []))) [] c p (record { reached = start x m inside (omega arith); loyal = good }) (omega arith) (inr (good_many x m [] c good fits)) (receiver x p lp);
    }

pub proved_tolerance : ToleranceHolds
proved_tolerance f law n m k tolerable c order traitor M inside count faithful = elim tolerable [
  | inl none ↦ all_loyal f law n c m order traitor M inside (omega arith) faithful
  | inr both ↦
      let few : k ≤ m = both.0 in
      let enough : 2 * k + m < n = both.1 in
      few_traitors f law n c m order traitor M inside (omega arith) (omega arith) faithful
]

-- Proves that the bound of the agreement theorem is within the tolerance.
pub proved_bound_is_tolerable : BoundIsTolerable
proved_bound_is_tolerable n m enough = inr (omega arith, omega arith)
