-- The outcomes of some orders, and of one more order.
use Rattle.std.proofs.Common.{◌≡◌, ℕ, ◌+◌, ◌<◌, List, [], ◌∷◌, ◌++◌, length, Bool, true, false, cond, refl, sym, ap, subst, ◌∙◌, ◌⊎◌, inl, inr, ⊎_elim, arith, length-append, Some, None}
use Rattle.std.specs.Prelude.{bytes_eq, sum_by}
use Rattle.std.specs.List.{AllByRecursion}
use Rattle.std.proofs.lemmas.Slice.Eq.{bytes_eq-Decides}
use Rattle.std.proofs.lemmas.List.Sums.{sum_by_push, sum_by-cons}
use Rattle.round.specs.Scenario.{Scenario}
use Rattle.world.specs.Kind.{Kind}
use Rattle.campaign_orders.specs.Listing.{Has, AreDifferent}
use Rattle.campaign_orders.specs.Outcomes.{Outcome, outcome_of}
use Rattle.campaign_orders.specs.Exploring.{Finding, outcomes_of, counted_in, ways_among, first_to}
use Rattle.campaign_orders.specs.Entering.{entered}
use Rattle.campaign_orders.proofs.Having.{has-append_to, has-append_of}

abbrev pub Order : Type 0
Order = List (List ℕ)

differ : (a b : List ℕ) → (a ≡ b → ⊥) → bytes_eq a b ≡ false
differ a b never = by (bytes_eq a b) refl
  where
    by : (t : Bool) → bytes_eq a b ≡ t → t ≡ false
    by true e = absurd (never ((bytes_eq-Decides a b).0 e))
    by false e = refl

-- One more order is appended.
known : (V : List Order) (o x : Order) → Has V x → Has (V ++ o ∷ []) x
known V o x h = has-append_to V (o ∷ []) x (inl h)

module _ (K : Kind) (D : Outcome) (s : Scenario) where
  -- States that a finding's example is the first of these orders with its decisions, and that its count is the number
  -- of such orders.
  pub record IsCounted (V : List Order) (f : Finding) : Type 0 where
    pub example : Has V f.example
    pub outcome : outcome_of K D s f.example ≡ f.decisions
    pub some : 0 < f.count
    pub count : f.count ≡ ways_among K D s V f.decisions
    pub first : first_to K D s V f.decisions ≡ Some f.example

  -- States that these are the findings of these orders.
  pub record IsTally (V : List Order) (findings : List Finding) : Type 0 where
    pub each : AllByRecursion (IsCounted V) findings
    pub different : AreDifferent (outcomes_of findings)
    pub whole : (order : Order) → Has V order → Has (outcomes_of findings) (outcome_of K D s order)
    pub total : counted_in findings ≡ length V

  pub no_tally : IsTally [] []
  no_tally = record { each = tt; different = tt; whole = λ order h. absurd h; total = refl }

  -- One more order has the decisions, or has others.
  more_ways : (V : List Order) (o : Order) (ds : List ℕ) → ways_among K D s (V ++ o ∷ []) ds ≡ ways_among K D s V ds + cond (bytes_eq (outcome_of K D s o) ds) 1 0
  more_ways V o ds = sum_by_push (λ (order : Order). cond (bytes_eq (outcome_of K D s order) ds) 1 0) V o

  one_way : (V : List Order) (o : Order) (ds : List ℕ) → outcome_of K D s o ≡ ds → ways_among K D s (V ++ o ∷ []) ds ≡ ways_among K D s V ds + 1
  one_way V o ds e = more_ways V o ds ∙ ap (λ (t : Bool). ways_among K D s V ds + cond t 1 0) ((bytes_eq-Decides (outcome_of K D s o) ds).1 e)

  no_way : (V : List Order) (o : Order) (ds : List ℕ) → (outcome_of K D s o ≡ ds → ⊥) → ways_among K D s (V ++ o ∷ []) ds ≡ ways_among K D s V ds
  no_way V o ds never = (let e = more_ways V o ds ∙ ap (λ (t : Bool). ways_among K D s V ds + cond t 1 0) (differ (outcome_of K D s o) ds never) in omega arith)

  none_way : (V : List Order) (ds : List ℕ) → ((x : Order) → Has V x → outcome_of K D s x ≡ ds → ⊥) → ways_among K D s V ds ≡ 0
  none_way [] ds never = refl
  none_way (x ∷ V) ds never =
      let f : Order → ℕ = λ order. cond (bytes_eq (outcome_of K D s order) ds) 1 0 in
      let here : f x ≡ 0 = ap (λ (t : Bool). cond t 1 0) (differ (outcome_of K D s x) ds (never x (inl refl))) in
      let rest : sum_by f V ≡ 0 = none_way V ds (λ y h. never y (inr h)) in
      sum_by-cons f x V ∙ (λ i. here i + rest i)

  -- The first order with the decisions stays the first. If there was none, it is the new one.
  pub first_stays : (V rest : List Order) (ds : List ℕ) (o : Order) → first_to K D s V ds ≡ Some o → first_to K D s (V ++ rest) ds ≡ Some o
  first_stays [] rest ds o e = absurd (let f : None ≡ Some o = e in cc)
  first_stays (x ∷ V) rest ds o e = by (first_stays V rest ds o) (bytes_eq (outcome_of K D s x) ds) e
    where
      by : (first_to K D s V ds ≡ Some o → first_to K D s (V ++ rest) ds ≡ Some o) → (t : Bool) → cond t (Some x) (first_to K D s V ds) ≡ Some o → cond t (Some x) (first_to K D s (V ++ rest) ds) ≡ Some o
      by again true f = f
      by again false f = again f

  first_then : (V : List Order) (o : Order) (ds : List ℕ) → ways_among K D s V ds ≡ 0 → outcome_of K D s o ≡ ds → first_to K D s (V ++ o ∷ []) ds ≡ Some o
  first_then [] o ds none e = ap (λ (t : Bool). cond t (Some o) None) ((bytes_eq-Decides (outcome_of K D s o) ds).1 e)
  first_then (x ∷ V) o ds none e =
      let f : Order → ℕ = λ order. cond (bytes_eq (outcome_of K D s order) ds) 1 0 in
      by (λ z. first_then V o ds z e) (bytes_eq (outcome_of K D s x) ds) (sym (sum_by-cons f x V) ∙ none)
    where
      by : (ways_among K D s V ds ≡ 0 → first_to K D s (V ++ o ∷ []) ds ≡ Some o) → (t : Bool) → cond t 1 0 + ways_among K D s V ds ≡ 0 → cond t (Some x) (first_to K D s (V ++ o ∷ []) ds) ≡ Some o
      by again true z = absurd (omega arith)
      by again false z = again (omega arith)

  -- What was found is still found.
  stays : (V : List Order) (o : Order) (f : Finding) → IsCounted V f → (outcome_of K D s o ≡ f.decisions → ⊥) → IsCounted (V ++ o ∷ []) f
  stays V o f h never = record { example = known V o f.example h.example; outcome = h.outcome; some = h.some; count = h.count ∙ sym (no_way V o f.decisions never); first = first_stays V (o ∷ []) f.decisions f.example h.first }

  all_stay : (V : List Order) (o : Order) (fs : List Finding) → AllByRecursion (IsCounted V) fs → (Has (outcomes_of fs) (outcome_of K D s o) → ⊥) → AllByRecursion (IsCounted (V ++ o ∷ [])) fs
  all_stay V o [] h never = tt
  all_stay V o (f ∷ fs) h never = (stays V o f h.0 (λ e. never (inl (sym e))), all_stay V o fs h.1 (λ k. never (inr k)))

  module _ (V : List Order) (o : Order) where
    each_more : (fs : List Finding) → AllByRecursion (IsCounted V) fs → AreDifferent (outcomes_of fs) → ((Has (outcomes_of fs) (outcome_of K D s o) → ⊥) → ways_among K D s V (outcome_of K D s o) ≡ 0) →
        AllByRecursion (IsCounted (V ++ o ∷ [])) (entered fs (outcome_of K D s o) o)
    each_more [] h d z =
        let w = one_way V o (outcome_of K D s o) refl in
        let first = first_then V o (outcome_of K D s o) (z (λ f. f)) refl in
        (record { example = has-append_to V (o ∷ []) o (inr (inl refl)); outcome = refl; some = omega arith; count = (let n = z (λ f. f) in omega arith); first = first }, tt)
    each_more (f ∷ fs) h d z = by (λ y. each_more fs h.1 d.1 y) (bytes_eq f.decisions (outcome_of K D s o)) refl
      where
        by : (((Has (outcomes_of fs) (outcome_of K D s o) → ⊥) → ways_among K D s V (outcome_of K D s o) ≡ 0) → AllByRecursion (IsCounted (V ++ o ∷ [])) (entered fs (outcome_of K D s o) o)) →
            (t : Bool) → bytes_eq f.decisions (outcome_of K D s o) ≡ t →
            AllByRecursion (IsCounted (V ++ o ∷ [])) (cond t (record f { count = f.count + 1 } ∷ fs) (f ∷ entered fs (outcome_of K D s o) o))
        by again true t =
            let e : f.decisions ≡ outcome_of K D s o = (bytes_eq-Decides f.decisions (outcome_of K D s o)).0 t in
            let w = one_way V o f.decisions (sym e) in
            let A : List ℕ → Type 0 = λ l. Has (outcomes_of fs) l in (
              record {
                example = known V o f.example h.0.example;
                outcome = h.0.outcome;
                some = omega arith;
                count = (let n = h.0.count in omega arith);
                first = first_stays V (o ∷ []) f.decisions f.example h.0.first;
              },
              all_stay V o fs h.1 (λ k. d.0 (subst A (sym e) k)),
            )
        by again false t =
            let ne : f.decisions ≡ outcome_of K D s o → ⊥ = (λ e. (let y = sym t ∙ (bytes_eq-Decides f.decisions (outcome_of K D s o)).1 e in let c : false ≡ true = y in cc)) in
            (stays V o f h.0 (λ e. ne (sym e)), again (λ never. z (λ k. ⊎_elim (λ e. ne e) (λ m. never m) k)))

    -- The outcomes are those found before and this one.
    outcomes_more : (fs : List Finding) (x : List ℕ) → Has (outcomes_of (entered fs (outcome_of K D s o) o)) x → Has (outcomes_of fs) x ⊎ (outcome_of K D s o ≡ x)
    outcomes_more [] x h = ⊎_elim (λ e. inr e) (λ k. absurd k) h
    outcomes_more (f ∷ fs) x h = by (λ k. outcomes_more fs x k) (bytes_eq f.decisions (outcome_of K D s o)) h
      where
        by : (Has (outcomes_of (entered fs (outcome_of K D s o) o)) x → Has (outcomes_of fs) x ⊎ (outcome_of K D s o ≡ x)) → (t : Bool) →
            Has (outcomes_of (cond t (record f { count = f.count + 1 } ∷ fs) (f ∷ entered fs (outcome_of K D s o) o))) x → ((f.decisions ≡ x) ⊎ Has (outcomes_of fs) x) ⊎ (outcome_of K D s o ≡ x)
        by again true k = inl k
        by again false k = ⊎_elim (λ e. inl (inl e)) (λ m. ⊎_elim (λ n. inl (inr n)) (λ e. inr e) (again m)) k

    more_different : (fs : List Finding) → AreDifferent (outcomes_of fs) → AreDifferent (outcomes_of (entered fs (outcome_of K D s o) o))
    more_different [] d = ((λ h. h), tt)
    more_different (f ∷ fs) d = by (more_different fs d.1) (bytes_eq f.decisions (outcome_of K D s o)) refl
      where
        by : AreDifferent (outcomes_of (entered fs (outcome_of K D s o) o)) → (t : Bool) → bytes_eq f.decisions (outcome_of K D s o) ≡ t →
            AreDifferent (outcomes_of (cond t (record f { count = f.count + 1 } ∷ fs) (f ∷ entered fs (outcome_of K D s o) o)))
        by again true t = d
        by again false t =
            ((λ h. ⊎_elim (λ k. d.0 k) (λ (e : outcome_of K D s o ≡ f.decisions). (let y = sym t ∙ (bytes_eq-Decides f.decisions (outcome_of K D s o)).1 (sym e) in let c : false ≡ true = y in cc)) (outcomes_more fs f.decisions h)), again)

    kept : (fs : List Finding) (x : List ℕ) → Has (outcomes_of fs) x → Has (outcomes_of (entered fs (outcome_of K D s o) o)) x
    kept [] x h = absurd h
    kept (f ∷ fs) x h = by (λ k. kept fs x k) (bytes_eq f.decisions (outcome_of K D s o)) h
      where
        by : (Has (outcomes_of fs) x → Has (outcomes_of (entered fs (outcome_of K D s o) o)) x) → (t : Bool) → ((f.decisions ≡ x) ⊎ Has (outcomes_of fs) x) →
            Has (outcomes_of (cond t (record f { count = f.count + 1 } ∷ fs) (f ∷ entered fs (outcome_of K D s o) o))) x
        by again true k = k
        by again false k = ⊎_elim (λ e. inl e) (λ m. inr (again m)) k

    new : (fs : List Finding) → Has (outcomes_of (entered fs (outcome_of K D s o) o)) (outcome_of K D s o)
    new [] = inl refl
    new (f ∷ fs) = by (new fs) (bytes_eq f.decisions (outcome_of K D s o)) refl
      where
        by : Has (outcomes_of (entered fs (outcome_of K D s o) o)) (outcome_of K D s o) → (t : Bool) → bytes_eq f.decisions (outcome_of K D s o) ≡ t →
            Has (outcomes_of (cond t (record f { count = f.count + 1 } ∷ fs) (f ∷ entered fs (outcome_of K D s o) o))) (outcome_of K D s o)
        by again true t = inl ((bytes_eq-Decides f.decisions (outcome_of K D s o)).0 t)
        by again false t = inr again

    one_counted : (fs : List Finding) → counted_in (entered fs (outcome_of K D s o) o) ≡ counted_in fs + 1
    one_counted [] = refl
    one_counted (f ∷ fs) = by (one_counted fs) (bytes_eq f.decisions (outcome_of K D s o))
      where
        by : counted_in (entered fs (outcome_of K D s o) o) ≡ counted_in fs + 1 → (t : Bool) →
            counted_in (cond t (record f { count = f.count + 1 } ∷ fs) (f ∷ entered fs (outcome_of K D s o) o)) ≡ counted_in (f ∷ fs) + 1
        by again true =
            let a = sum_by-cons (λ (g : Finding). g.count) (record f { count = f.count + 1 }) fs in
            let b = sum_by-cons (λ (g : Finding). g.count) f fs in
            omega arith
        by again false =
            let a = sum_by-cons (λ (g : Finding). g.count) f (entered fs (outcome_of K D s o) o) in
            let b = sum_by-cons (λ (g : Finding). g.count) f fs in
            omega arith

    pub tally_more : (fs : List Finding) → IsTally V fs → IsTally (V ++ o ∷ []) (entered fs (outcome_of K D s o) o)
    tally_more fs h =
        let A : List ℕ → Type 0 = λ l. Has (outcomes_of fs) l in
        record {
          each = each_more fs h.each h.different (λ never. none_way V (outcome_of K D s o) (λ x k e. never (subst A e (h.whole x k))));
          different = more_different fs h.different;
          whole = λ order k. ⊎_elim
              (λ m. kept fs (outcome_of K D s order) (h.whole order m))
              (λ m. ⊎_elim (λ (e : o ≡ order). (let B : List ℕ → Type 0 = λ l. Has (outcomes_of (entered fs (outcome_of K D s o) o)) l in subst B (ap (outcome_of K D s) e) (new fs))) (λ f. absurd f) m)
              (has-append_of V (o ∷ []) order k);
          total = one_counted fs ∙ (let t = h.total in let n = length-append V (o ∷ []) in omega arith);
        }
