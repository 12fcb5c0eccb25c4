-- The loyal lieutenants agree if no attempt succeeds, and a successful attempt breaks their agreement.
use Rattle.std.proofs.Common.{ℕ, ◌<◌, ◌≤◌, ◌≡◌, Bool, true, false, cond, List, [], ◌∷◌, map, refl, sym, ap, ◌∙◌, arith, inl, inr, None, Some}
use Rattle.std.specs.Prelude.{count_by, filter, ◌==◌, ◌⊎◌}
use Rattle.std.proofs.lemmas.Bool.{cases_Bool, or_from, ne_eqb, cond-true, cond-false, false≢true}
use Rattle.combine.specs.declared.campaign_rule.Rule.{Rule}
use Rattle.combine.specs.Rule.{combined_by}
use Rattle.label.specs.Labels.{on, generals, others}
use Rattle.label.specs.Oral.{Messages, om, order_of, IsLoyalLieutenant, Agree}
use Rattle.label.proofs.Counting.{on-filter, range-on}
use Rattle.label.proofs.Counts.{among}
use Rattle.lies.specs.Attempts.{IsIn, attempts, disagreement, disobedience, plan_for, NoneCheaperAmong}
use Rattle.lies.specs.Break.{ToleratesUnder, attacks_in}
use Rattle.lies.specs.Plans.{attacks, plan}
use Rattle.lies.specs.TwoOrders.{Within}
use Rattle.lies.specs.declared.aim.Aims.{Aims}
use Rattle.lies.specs.declared.attempt.Attempt.{Attempt}
use Rattle.lies.specs.declared.choice.Choice.{Choice}
use Rattle.lies.specs.declared.sender.Sender.{Sender}
use Rattle.lies.specs.declared.sender.Sender.TheVariants.{Loyal, Traitor}
use Rattle.lies.proofs.Aims.{Setting, IsReceiver, IsAimed, Decides}
use Rattle.lies.proofs.Completeness.{Played, At, Sends, complete, om_small, below_two}
use Rattle.lies.proofs.Costs.{same_from}
use Rattle.lies.proofs.Members.{on_in, in_on, in_flat_map, in_map, in_filter}
use Rattle.lies.proofs.PlanLemmas.{PlanWithin}
use Rattle.lies.proofs.Projections.{proved_rules_project}
use Rattle.lies.proofs.TwoOrderLaws.{proved_two_orders_suffice}

-- States that the messages are those of a campaign with these traitors, in which everyone takes 0 or 1.
pub record Played01 (f : List ℕ → ℕ) (n m c order : ℕ) (t : ℕ → Bool) (M : Messages) : Type 0 where
  pub inside : c < n
  pub ordered : order < 2
  pub played : Played (record { f = f; traitor = t; n = n; M = M }) c m order

abbrev setting : (List ℕ → ℕ) → ℕ → (ℕ → Bool) → Messages → Setting
setting f n t M = record { f = f; traitor = t; n = n; M = M }

-- States that each attempt that succeeds needs more orders than `limit`.
abbrev pub NoneWithin : (List ℕ → ℕ) → ℕ → ℕ → ℕ → List ℕ → ℕ → Type 0
NoneWithin f n m c traitors limit = (attempt : Attempt) (zs : List Choice) → IsIn attempt (attempts n c traitors) → plan_for f n m c traitors attempt ≡ Some zs → limit < attacks zs

loyal_in : (n c : ℕ) (traitors : List ℕ) (p : ℕ) → IsLoyalLieutenant n c (on traitors) p → IsIn p (others n (c ∷ traitors))
loyal_in n c traitors p l = in_on (others n (c ∷ traitors)) p (among n (c ∷ traitors) p l.general (or_from (c == p) (on traitors p) (ne_eqb c p (λ e. l.lieutenant (sym e))) l.loyal))

receiver : (f : List ℕ → ℕ) (n c : ℕ) (traitors : List ℕ) (M : Messages) (p : ℕ) → IsLoyalLieutenant n c (on traitors) p → IsReceiver (setting f n (on traitors) M) (c ∷ []) p
receiver f n c traitors M p l = record { within = l.general; loyal = l.loyal; off = or_from (c == p) false (ne_eqb c p (λ e. l.lieutenant (sym e))) refl }

disagreement_in : (n c : ℕ) (traitors : List ℕ) (p q : ℕ) → on traitors c ≡ true → IsLoyalLieutenant n c (on traitors) p → IsLoyalLieutenant n c (on traitors) q → IsIn (disagreement p q) (attempts n c traitors)
disagreement_in n c traitors p q bad lp lq =
    rw bad (in_flat_map (λ (i : ℕ). map (disagreement i) (others n (c ∷ traitors))) (disagreement p q) p (others n (c ∷ traitors)) (loyal_in n c traitors p lp)
    (in_map (disagreement p) q (others n (c ∷ traitors)) (loyal_in n c traitors q lq)))

disobedience_in : (n c : ℕ) (traitors : List ℕ) (p order other : ℕ) → on traitors c ≡ false → IsLoyalLieutenant n c (on traitors) p → ((order ≡ 0) × (other ≡ 1)) ⊎ ((order ≡ 1) × (other ≡ 0)) → IsIn (disobedience p order other) (attempts n c traitors)
disobedience_in n c traitors p order other good lp which =
    rw good (in_flat_map (λ (i : ℕ). disobedience i 0 1 ∷ disobedience i 1 0 ∷ []) (disobedience p order other) p (others n (c ∷ traitors)) (loyal_in n c traitors p lp) (one which))
  where
    one : ((order ≡ 0) × (other ≡ 1)) ⊎ ((order ≡ 1) × (other ≡ 0)) → IsIn (disobedience p order other) (disobedience p 0 1 ∷ disobedience p 1 0 ∷ [])
    one (inl e) = inl (λ i. disobedience p (e.0 i) (e.1 i))
    one (inr e) = inr (inl (λ i. disobedience p (e.0 i) (e.1 i)))

-- Proves that the recursion begins with the commander's label.
at_root : (f : List ℕ → ℕ) (n m c order : ℕ) (traitors : List ℕ) (M : Messages) → Played01 f n m c order (on traitors) M → At (setting f n (on traitors) M) c m m [] c (cond (on traitors c) Traitor (Loyal order))
at_root f n m c order traitors M y = record {
  label = record { first = refl; below = (y.inside, tt); distinct = refl };
  time = omega arith;
  sends = sent (on traitors c) refl;
}
  where
    sent : (b : Bool) → on traitors c ≡ b → Sends (setting f n (on traitors) M) (c ∷ []) c (cond b Traitor (Loyal order))
    sent true e = e
    sent false e = (y.ordered, λ p r. ap order_of (y.played.faithful c y.inside e [] p (record { first = refl; below = (y.inside, tt); distinct = refl }) (omega arith) r.within r.off))

-- Proves that there is a plan for aims that the messages meet.
met_attempt : (f : List ℕ → ℕ) (n m c order : ℕ) (traitors : List ℕ) (M : Messages) → Played01 f n m c order (on traitors) M → (a : Aims) → IsAimed (setting f n (on traitors) M) (c ∷ []) a.first → IsAimed (setting f n (on traitors) M) (c ∷ []) a.second
    → Decides (setting f n (on traitors) M) m (c ∷ []) a.first → Decides (setting f n (on traitors) M) m (c ∷ []) a.second
    → PlanWithin f (on traitors) m (others n (c ∷ [])) (cond (on traitors c) Traitor (Loyal order)) a (attacks_in n m c (on traitors) M)
met_attempt f n m c order traitors M y a r t d e = complete (setting f n (on traitors) M) c m order y.played m [] c (cond (on traitors c) Traitor (Loyal order)) a (at_root f n m c order traitors M y) r t d e

-- Proves that a loyal lieutenant obeys a loyal commander.
obeys : (f : List ℕ → ℕ) (n m c order : ℕ) (traitors : List ℕ) (M : Messages) → Played01 f n m c order (on traitors) M → NoneWithin f n m c traitors (attacks_in n m c (on traitors) M) → on traitors c ≡ false → (p : ℕ) → IsLoyalLieutenant n c (on traitors) p
    → om f n M m (c ∷ []) p ≡ order
obeys f n m c order traitors M y none good p l =
    same (om f n M m (c ∷ []) p) refl (below_two (om f n M m (c ∷ []) p) (om_small (setting f n (on traitors) M) c m order y.played m (c ∷ []) p)) (below_two order y.ordered)
  where
    never : (other : ℕ) → om f n M m (c ∷ []) p ≡ other → ((order ≡ 0) × (other ≡ 1)) ⊎ ((order ≡ 1) × (other ≡ 0)) → ⊥
    never other e which =
        let found = met_attempt f n m c order traitors M y (record { first = Some (record { general = p; order = other }); second = None }) (receiver f n c traitors M p l) tt e tt in
        let cheap = found.least in
        let is : plan_for f n m c traitors (disobedience p order other) ≡ Some found.choices =
        ap (λ (s : Sender). plan f (on traitors) m (others n (c ∷ [])) s (record { first = Some (record { general = p; order = other }); second = None })) (sym (cond-false (on traitors c) Traitor (Loyal order) good)) ∙ found.is
        in
        let more = none (disobedience p order other) found.choices (disobedience_in n c traitors p order other good l which) is in
        omega arith

    same : (v : ℕ) → om f n M m (c ∷ []) p ≡ v → (v ≡ 0) ⊎ (v ≡ 1) → (order ≡ 0) ⊎ (order ≡ 1) → v ≡ order
    same v e (inl a) (inl b) = a ∙ sym b
    same v e (inr a) (inr b) = a ∙ sym b
    same v e (inl a) (inr b) = absurd (never v e (inr (b, a)))
    same v e (inr a) (inl b) = absurd (never v e (inl (b, a)))

-- Proves that two loyal lieutenants agree under a traitor.
agrees : (f : List ℕ → ℕ) (n m c order : ℕ) (traitors : List ℕ) (M : Messages) → Played01 f n m c order (on traitors) M → NoneWithin f n m c traitors (attacks_in n m c (on traitors) M) → on traitors c ≡ true → (p q : ℕ)
    → IsLoyalLieutenant n c (on traitors) p → IsLoyalLieutenant n c (on traitors) q → om f n M m (c ∷ []) p ≡ om f n M m (c ∷ []) q
agrees f n m c order traitors M y none bad p q lp lq =
    same (below_two (om f n M m (c ∷ []) p) (om_small (setting f n (on traitors) M) c m order y.played m (c ∷ []) p)) (below_two (om f n M m (c ∷ []) q) (om_small (setting f n (on traitors) M) c m order y.played m (c ∷ []) q))
  where
    never : (i j : ℕ) → IsLoyalLieutenant n c (on traitors) i → IsLoyalLieutenant n c (on traitors) j → om f n M m (c ∷ []) i ≡ 0 → om f n M m (c ∷ []) j ≡ 1 → ⊥
    never i j li lj ei ej =
        let a : Aims = record { first = Some (record { general = i; order = 0 }); second = Some (record { general = j; order = 1 }) } in
        let found = met_attempt f n m c order traitors M y (record { first = Some (record { general = i; order = 0 }); second = Some (record { general = j; order = 1 }) }) (receiver f n c traitors M i li) (receiver f n c traitors M j lj) ei ej in
        let cheap = found.least in
        let is : plan_for f n m c traitors (disagreement i j) ≡ Some found.choices =
        ap (λ (s : Sender). plan f (on traitors) m (others n (c ∷ [])) s (record { first = Some (record { general = i; order = 0 }); second = Some (record { general = j; order = 1 }) })) (sym (cond-true (on traitors c) Traitor (Loyal order) bad)) ∙ found.is
        in
        let more = none (disagreement i j) found.choices (disagreement_in n c traitors i j bad li lj) is in
        omega arith

    same : (om f n M m (c ∷ []) p ≡ 0) ⊎ (om f n M m (c ∷ []) p ≡ 1) → (om f n M m (c ∷ []) q ≡ 0) ⊎ (om f n M m (c ∷ []) q ≡ 1) → om f n M m (c ∷ []) p ≡ om f n M m (c ∷ []) q
    same (inl a) (inl b) = a ∙ sym b
    same (inr a) (inr b) = a ∙ sym b
    same (inl a) (inr b) = absurd (never p q lp lq a b)
    same (inr a) (inl b) = absurd (never q p lq lp b a)

pub agree_within : (f : List ℕ → ℕ) (n m c order : ℕ) (traitors : List ℕ) (M : Messages) → Played01 f n m c order (on traitors) M → NoneWithin f n m c traitors (attacks_in n m c (on traitors) M) → Agree n c order (on traitors) (om f n M m (c ∷ []))
agree_within f n m c order traitors M y none = elim (cases_Bool (on traitors c)) [
  | inl bad ↦ record {
    alike = λ p q lp lq. agrees f n m c order traitors M y none bad p q lp lq;
    obeyed = λ good p l. absurd (false≢true (sym good ∙ bad));
  }
  | inr good ↦ record {
    alike = λ p q lp lq. obeys f n m c order traitors M y none good p lp ∙ sym (obeys f n m c order traitors M y none good q lq);
    obeyed = λ _ p l. obeys f n m c order traitors M y none good p l;
  }
]

-- Proves that the list of the traitors has the traitors.
pub listed_traitor : (n : ℕ) (t : ℕ → Bool) (p : ℕ) → p < n → on (filter t (generals n)) p ≡ t p
listed_traitor n t p l = elim (cases_Bool (t p)) [
  | inl bad ↦ on_in (filter t (generals n)) p (in_filter t p (generals n) (in_on (generals n) p (range-on 0 n p (omega arith) (omega arith))) bad) ∙ sym bad
  | inr good ↦ elim (cases_Bool (on (filter t (generals n)) p)) [
    | inl it ↦ absurd (false≢true (sym good ∙ (on-filter t (generals n) p it).1))
    | inr out ↦ out ∙ sym good
  ]
]

-- Proves that the loyal lieutenants agree, whatever is sent with at most this many orders by traitors.
pub agree_below : (rule : Rule) (n m c limit : ℕ) (t : ℕ → Bool) → c < n → NoneWithin (combined_by rule) n m c (filter t (generals n)) limit
    → (order : ℕ) (M : Messages) → Within n m c limit order t M → Agree n c order t (om (combined_by rule) n M m (c ∷ []))
agree_below rule n m c limit t inside none =
    proved_two_orders_suffice rule n m c limit t inside (λ order M ordered two w. back order M (agree_within (combined_by rule) n m c order (filter t (generals n)) M (record {
      inside = inside;
      ordered = ordered;
      played = record {
        two = two;
        rule = proved_rules_project.small rule;
        faithful = λ g l loyal. w.faithful g l (sym (listed_traitor n t g l) ∙ loyal);
      };
    })
    (λ attempt zs i e.
    let few = w.few in
    let same : attacks_in n m c t M ≡ attacks_in n m c (on (filter t (generals n))) M =
    same_from n c m t (on (filter t (generals n))) M M (record { traitors = λ j l. sym (listed_traitor n t j l); messages = λ v p label short l off. refl }) m (c ∷ []) c
    (record { first = refl; below = (inside, tt); distinct = refl }) (omega arith) inside
    in
    let more = none attempt zs i e in
    omega arith)))
  where
    loyal_too : (p : ℕ) → IsLoyalLieutenant n c t p → IsLoyalLieutenant n c (on (filter t (generals n))) p
    loyal_too p l = record { general = l.general; lieutenant = l.lieutenant; loyal = listed_traitor n t p l.general ∙ l.loyal }

    back : (order : ℕ) (M : Messages) → Agree n c order (on (filter t (generals n))) (om (combined_by rule) n M m (c ∷ [])) → Agree n c order t (om (combined_by rule) n M m (c ∷ []))
    back order M a = record {
      alike = λ p q lp lq. a.alike p q (loyal_too p lp) (loyal_too q lq);
      obeyed = λ loyal p l. a.obeyed (listed_traitor n t c inside ∙ loyal) p (loyal_too p l);
    }

-- Proves that the rule tolerates the traitors if no attempt succeeds.
pub none_tolerated : (rule : Rule) (n m c most : ℕ) → c < n → ((t : ℕ → Bool) → count_by t (generals n) ≤ most → NoneCheaperAmong (combined_by rule) n m c None (filter t (generals n))) → ToleratesUnder (combined_by rule) n m most c
none_tolerated rule n m c most inside none order t M few faithful =
    agree_below rule n m c (attacks_in n m c t M) t inside
    (λ attempt zs i e. absurd (no_plan zs (sym (none t few attempt i) ∙ e)))
    order M (record { few = omega arith; faithful = faithful })
  where
    no_plan : (zs : List Choice) → None ≡ Some zs → ⊥
    no_plan zs e = cc
