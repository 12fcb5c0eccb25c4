-- A successful attempt is a break: loyal generals are faithful in its messages, and the decisions break IC1 or IC2.
use Rattle.std.proofs.Common.{ℕ, ◌<◌, ◌≤◌, ◌≡◌, ◌≢◌, Bool, true, false, not, List, [], ◌∷◌, ◌++◌, map, length, refl, sym, ap, subst, ◌∙◌, arith, inl, inr, Some}
use Rattle.std.specs.Prelude.{◌==◌, ◌⊎◌}
use Rattle.std.proofs.lemmas.Bool.{and_parts, or_from, or_parts, not-true, ne_eqb, eqb-false, false≢true}
use Rattle.label.specs.Labels.{on, is_distinct, others}
use Rattle.label.specs.Oral.{IsLabel, taken, om, IsFaithful, IsLoyalLieutenant}
use Rattle.label.proofs.Counting.{others-on}
use Rattle.book.specs.WrittenLaws.{AreOrders}
use Rattle.lies.specs.Attempts.{IsIn, attempts, attempts_on, disagreement, disobedience, plan_for, Succeeds}
use Rattle.lies.specs.Break.{Breaks, attacks_in}
use Rattle.lies.specs.Plans.{attacks}
use Rattle.lies.specs.PlannedMessages.{received, message, planned}
use Rattle.lies.specs.declared.attempt.Attempt.{Attempt}
use Rattle.lies.specs.declared.attempt.Success.{Success}
use Rattle.lies.specs.declared.choice.Choice.{Choice}
use Rattle.lies.specs.declared.sender.Sender.{Sender}
use Rattle.lies.specs.declared.sender.Sender.TheVariants.{Loyal, Traitor}
use Rattle.lies.proofs.Aims.{Setting, IsReceiver}
use Rattle.lies.proofs.Costs.{cost_within}
use Rattle.lies.proofs.Members.{on_in, from_flat_map, from_map, FromFlatMap, FromMap}
use Rattle.lies.proofs.SmallOrders.{small_planned}
use Rattle.lies.proofs.Soundness.{Follows, BothDecide, extends, relays, sound, own_message}

-- States that the attempt is that two loyal lieutenants disagree under a traitor.
pub record Disagrees (n c : ℕ) (traitors : List ℕ) (attempt : Attempt) : Type 0 where
  pub commander : on traitors c ≡ true
  pub p : ℕ
  pub q : ℕ
  pub first : IsLoyalLieutenant n c (on traitors) p
  pub second : IsLoyalLieutenant n c (on traitors) q
  pub is : attempt ≡ disagreement p q

-- States that the attempt is that a loyal lieutenant disobeys a loyal commander.
pub record Disobeys (n c : ℕ) (traitors : List ℕ) (attempt : Attempt) : Type 0 where
  pub commander : on traitors c ≡ false
  pub p : ℕ
  pub order : ℕ
  pub other : ℕ
  pub loyal : IsLoyalLieutenant n c (on traitors) p
  pub ordered : order < 2
  pub small : other < 2
  pub apart : other ≢ order
  pub is : attempt ≡ disobedience p order other

loyal_of : (n c : ℕ) (traitors : List ℕ) (p : ℕ) → IsIn p (others n (c ∷ traitors)) → IsLoyalLieutenant n c (on traitors) p
loyal_of n c traitors p i =
    let there = others-on n (c ∷ traitors) p (on_in (others n (c ∷ traitors)) p i) in
    let apart = or_parts (c == p) (on traitors p) there.1 in
    record { general = there.0; lieutenant = λ e. eqb-false c p apart.0 (sym e); loyal = apart.1 }

pub attempt_kind : (n c : ℕ) (traitors : List ℕ) (attempt : Attempt) → IsIn attempt (attempts n c traitors) → Disagrees n c traitors attempt ⊎ Disobeys n c traitors attempt
attempt_kind n c traitors attempt i = kind (on traitors c) refl i
  where
    two_ways : (p : ℕ) → IsLoyalLieutenant n c (on traitors) p → on traitors c ≡ false → IsIn attempt (disobedience p 0 1 ∷ disobedience p 1 0 ∷ []) → Disobeys n c traitors attempt
    two_ways p l e (inl is) = record { commander = e; p = p; order = 0; other = 1; loyal = l; ordered = omega arith; small = omega arith; apart = λ h. absurd (omega arith); is = is }
    two_ways p l e (inr (inl is)) = record { commander = e; p = p; order = 1; other = 0; loyal = l; ordered = omega arith; small = omega arith; apart = λ h. absurd (omega arith); is = is }
    two_ways p l e (inr (inr is)) = absurd is

    kind : (b : Bool) → on traitors c ≡ b → IsIn attempt (attempts_on b (others n (c ∷ traitors))) → Disagrees n c traitors attempt ⊎ Disobeys n c traitors attempt
    kind true e j =
        let from : FromFlatMap (λ (p : ℕ). map (disagreement p) (others n (c ∷ traitors))) attempt (others n (c ∷ traitors)) = from_flat_map (λ (p : ℕ). map (disagreement p) (others n (c ∷ traitors))) attempt (others n (c ∷ traitors)) j in
        let second : FromMap (disagreement from.source) attempt (others n (c ∷ traitors)) = from_map (disagreement from.source) attempt (others n (c ∷ traitors)) from.member in
        inl (record {
          commander = e;
          p = from.source;
          q = second.source;
          first = loyal_of n c traitors from.source from.listed;
          second = loyal_of n c traitors second.source second.listed;
          is = second.is;
        })
    kind false e j =
        let from : FromFlatMap (λ (p : ℕ). disobedience p 0 1 ∷ disobedience p 1 0 ∷ []) attempt (others n (c ∷ traitors)) =
        from_flat_map (λ (p : ℕ). disobedience p 0 1 ∷ disobedience p 1 0 ∷ []) attempt (others n (c ∷ traitors)) j
        in
        inr (two_ways from.source (loyal_of n c traitors from.source from.listed) e from.member)

abbrev setting : (List ℕ → ℕ) → ℕ → ℕ → ℕ → List ℕ → Attempt → Setting
setting f n m c traitors attempt = record { f = f; traitor = on traitors; n = n; M = planned f (on traitors) n m c attempt.sender attempt.aims }

-- Proves that the planned messages follow the plan for the commander's label.
root_same : (f : List ℕ → ℕ) (n m c : ℕ) (traitors : List ℕ) (attempt : Attempt) (u : List ℕ) (g : ℕ)
    → planned f (on traitors) n m c attempt.sender attempt.aims ((c ∷ []) ++ u) g ≡ message f (on traitors) m (others n (c ∷ [])) attempt.sender attempt.aims u g
unfolding planned
root_same f n m c traitors attempt u g = refl

abbrev root : (f : List ℕ → ℕ) (n m c : ℕ) (traitors : List ℕ) (attempt : Attempt) (zs : List Choice) → plan_for f n m c traitors attempt ≡ Some zs → Follows (setting f n m c traitors attempt) m (c ∷ []) attempt.sender attempt.aims
root f n m c traitors attempt zs e = record { same = root_same f n m c traitors attempt; choices = zs; possible = e }

receiver : (f : List ℕ → ℕ) (n m c : ℕ) (traitors : List ℕ) (attempt : Attempt) (p : ℕ) → IsLoyalLieutenant n c (on traitors) p → IsReceiver (setting f n m c traitors attempt) (c ∷ []) p
receiver f n m c traitors attempt p l = record { within = l.general; loyal = l.loyal; off = or_from (c == p) false (ne_eqb c p (λ e. l.lieutenant (sym e))) refl }

-- Proves that a loyal lieutenant relays the order that he took.
relayed : (f : List ℕ → ℕ) (n m c order : ℕ) (traitors : List ℕ) (attempt : Attempt) (zs : List Choice) → plan_for f n m c traitors attempt ≡ Some zs → (g : ℕ) → on traitors g ≡ false → (x : ℕ) (u : List ℕ) (p : ℕ) → IsLabel n c (x ∷ u ++ g ∷ []) → length u < m
    → planned f (on traitors) n m c attempt.sender attempt.aims (x ∷ u ++ g ∷ []) p ≡ Some (taken (planned f (on traitors) n m c attempt.sender attempt.aims) (x ∷ u) g)
unfolding planned
relayed f n m c order traitors attempt zs e g loyal x u p label long =
    let apart = and_parts (not (on (u ++ g ∷ []) x)) (is_distinct (u ++ g ∷ [])) label.distinct in
    let out : on (u ++ g ∷ []) x ≡ false = not-true (on (u ++ g ∷ []) x) apart.0 in
    relays (setting f n m c traitors attempt) m (c ∷ []) attempt.sender attempt.aims (root f n m c traitors attempt zs e) u g p loyal long
    (extends n (c ∷ []) (u ++ g ∷ []) label.below.1 apart.1
    (λ h i. or_from (c == h) false (ne_eqb c h (λ same. false≢true (sym out ∙ (ap (on (u ++ g ∷ [])) (label.first ∙ same) ∙ i)))) refl))

-- Proves that a loyal commander sends his order.
ordered : (f : List ℕ → ℕ) (n m c order : ℕ) (traitors : List ℕ) (attempt : Attempt) (zs : List Choice) → plan_for f n m c traitors attempt ≡ Some zs → attempt.sender ≡ Loyal order → (g p : ℕ) → planned f (on traitors) n m c attempt.sender attempt.aims (g ∷ []) p ≡ Some order
unfolding planned
ordered f n m c order traitors attempt zs e sends g p =
    own_message (setting f n m c traitors attempt) m (c ∷ []) attempt.sender attempt.aims p (root f n m c traitors attempt zs e)
    ∙ ap (λ (s : Sender). received (on traitors) s (Some zs) p) sends

faithful : (f : List ℕ → ℕ) (n m c order : ℕ) (traitors : List ℕ) (attempt : Attempt) (zs : List Choice) → plan_for f n m c traitors attempt ≡ Some zs → (on traitors c ≡ false → attempt.sender ≡ Loyal order) → (g : ℕ) → on traitors g ≡ false
    → IsFaithful n c m order (planned f (on traitors) n m c attempt.sender attempt.aims) g
faithful f n m c order traitors attempt zs e sends g loyal [] p label short within off =
    let is : g ≡ c = label.first in
    ordered f n m c order traitors attempt zs e (sends (ap (on traitors) (sym is) ∙ loyal)) g p
faithful f n m c order traitors attempt zs e sends g loyal (x ∷ u) p label short within off =
    relayed f n m c order traitors attempt zs e g loyal x u p label (omega arith)

-- States that the planned messages of an attempt are a break with orders of 32 bits, and what it costs at most.
pub record IsBreak (f : List ℕ → ℕ) (n m c : ℕ) (traitors : List ℕ) (attempt : Attempt) (cost : ℕ) : Type 0 where
  pub order : ℕ
  pub breaks : Breaks f n m c order (on traitors) (planned f (on traitors) n m c attempt.sender attempt.aims)
  pub cheap : attacks_in n m c (on traitors) (planned f (on traitors) n m c attempt.sender attempt.aims) ≤ cost
  pub orders : AreOrders (planned f (on traitors) n m c attempt.sender attempt.aims)

disagreed : (f : List ℕ → ℕ) (n m c : ℕ) (traitors : List ℕ) (p q : ℕ) (zs : List Choice) → on traitors c ≡ true → IsLoyalLieutenant n c (on traitors) p → IsLoyalLieutenant n c (on traitors) q
    → plan_for f n m c traitors (disagreement p q) ≡ Some zs → IsBreak f n m c traitors (disagreement p q) (attacks zs)
disagreed f n m c traitors p q zs bad lp lq e =
    let follows : Follows (setting f n m c traitors (disagreement p q)) m (c ∷ []) Traitor (disagreement p q).aims = root f n m c traitors (disagreement p q) zs e in
    let both : BothDecide (setting f n m c traitors (disagreement p q)) m (c ∷ []) (disagreement p q).aims =
    sound (setting f n m c traitors (disagreement p q)) m (c ∷ []) Traitor (disagreement p q).aims follows (receiver f n m c traitors (disagreement p q) p lp) (receiver f n m c traitors (disagreement p q) q lq)
    in
    let first : om f n (planned f (on traitors) n m c Traitor (disagreement p q).aims) m (c ∷ []) p ≡ 0 = both.first in
    let second : om f n (planned f (on traitors) n m c Traitor (disagreement p q).aims) m (c ∷ []) q ≡ 1 = both.second in
    record {
      order = 0;
      breaks = record {
        faithful = λ g l loyal. faithful f n m c 0 traitors (disagreement p q) zs e (λ good. absurd (false≢true (sym good ∙ bad))) g loyal;
        broken = λ agree. (let same = agree.alike p q lp lq in absurd (omega arith));
      };
      cheap = cost_within (setting f n m c traitors (disagreement p q)) m (c ∷ []) c Traitor (disagreement p q).aims follows (inr refl);
      orders = λ w r order h. small_planned f (on traitors) n m c Traitor (disagreement p q).aims w r order tt (record { first = omega arith; second = omega arith }) h;
    }

disobeyed : (f : List ℕ → ℕ) (n m c : ℕ) (traitors : List ℕ) (p order other : ℕ) (zs : List Choice) → on traitors c ≡ false → IsLoyalLieutenant n c (on traitors) p → order < 2 → other < 2 → other ≢ order
    → plan_for f n m c traitors (disobedience p order other) ≡ Some zs → IsBreak f n m c traitors (disobedience p order other) (attacks zs)
disobeyed f n m c traitors p order other zs good lp small less apart e =
    let follows : Follows (setting f n m c traitors (disobedience p order other)) m (c ∷ []) (Loyal order) (disobedience p order other).aims = root f n m c traitors (disobedience p order other) zs e in
    let both : BothDecide (setting f n m c traitors (disobedience p order other)) m (c ∷ []) (disobedience p order other).aims =
    sound (setting f n m c traitors (disobedience p order other)) m (c ∷ []) (Loyal order) (disobedience p order other).aims follows (receiver f n m c traitors (disobedience p order other) p lp) tt
    in
    record {
      order = order;
      breaks = record {
        faithful = λ g l loyal. faithful f n m c order traitors (disobedience p order other) zs e (λ _. refl) g loyal;
        broken = λ agree. apart (sym both.first ∙ agree.obeyed good p lp);
      };
      cheap = cost_within (setting f n m c traitors (disobedience p order other)) m (c ∷ []) c (Loyal order) (disobedience p order other).aims follows (inl good);
      orders = λ w r v h. small_planned f (on traitors) n m c (Loyal order) (disobedience p order other).aims w r v small (record { first = less; second = tt }) h;
    }

-- Proves that an attempt that succeeds is a break.
pub break_is : (f : List ℕ → ℕ) (n m c : ℕ) (traitors : List ℕ) (success : Success) → Succeeds f n m c traitors success → IsBreak f n m c traitors success.attempt success.attacks
break_is f n m c traitors success h =
    let P : Attempt → Type 0 = λ t. plan_for f n m c traitors t ≡ Some h.choices in
    let B : Attempt → Type 0 = λ t. IsBreak f n m c traitors t (attacks h.choices) in
    let is : IsBreak f n m c traitors success.attempt (attacks h.choices) =
    elim (attempt_kind n c traitors success.attempt h.one) [
      | inl d ↦ subst B (sym d.is) (disagreed f n m c traitors d.p d.q h.choices d.commander d.first d.second (subst P d.is h.planned))
      | inr d ↦ subst B (sym d.is) (disobeyed f n m c traitors d.p d.order d.other h.choices d.commander d.loyal d.ordered d.small d.apart (subst P d.is h.planned))
    ]
    in
    subst (λ (cost : ℕ). IsBreak f n m c traitors success.attempt cost) h.counted is
