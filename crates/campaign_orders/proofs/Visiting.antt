-- Orders are visited one after another, from the first to the last or up to a limit.
use Rattle.std.proofs.Common.{◌≡◌, ℕ, suc, ◌+◌, ◌≤◌, List, [], ◌∷◌, ◌++◌, length, refl, sym, ap, subst, ◌∙◌, inl, Some, None, append-nil, append_assoc, arith, length-append, take, All}
use Rattle.std.specs.Prelude.{cond, bytes_eq}
use Rattle.std.proofs.lemmas.List.Sums.{sum_by-append}
use Rattle.std.proofs.lemmas.List.Elements.{All-from_recursion, All-weaker}
use Rattle.round.specs.Scenario.{Scenario, IsScenario}
use Rattle.world.specs.Kind.{Kind, opening, run}
use Rattle.world.specs.KindLists.{IsComplete, replayed}
use Rattle.world.specs.Campaigns.{AreCampaigns}
use Rattle.world.proofs.Lasting.{replayed_complete}
use Rattle.campaign_orders.specs.Orders.{order_of, IsFrom}
use Rattle.campaign_orders.specs.Listing.{Has, AreShort, most_in_round, orders}
use Rattle.campaign_orders.specs.Outcomes.{Outcome, outcome_of}
use Rattle.campaign_orders.specs.Exploring.{Finding, outcomes_of, counted_in, ways_among, IsReal, IsFinding, IsLowerFinding, IsExplored, IsExploredInPart, first_to}
use Rattle.campaign_orders.specs.Entering.{entered}
use Rattle.campaign_orders.specs.Succession.{next_order}
use Rattle.campaign_orders.proofs.Having.{has-append_to}
use Rattle.campaign_orders.proofs.Walking.{order_walks}
use Rattle.campaign_orders.proofs.Leading.{replay_completes}
use Rattle.campaign_orders.proofs.Deciding.{again}
use Rattle.campaign_orders.proofs.Bounded.{order_short, orders_are_whole}
use Rattle.campaign_orders.proofs.Succeeding.{rest_from, from_first, from_last, from_next, walks_next}
use Rattle.campaign_orders.proofs.Tallying.{Order, IsCounted, IsTally, no_tally, tally_more, first_stays}

module _ (K : Kind) where
  -- Returns the order of the replay of these names, and the orders after it.
  abbrev pub here : Scenario → Order → Order
  here s names = order_of K s (replayed K s names)

  abbrev pub after : Scenario → Order → List Order
  after s order = rest_from K (most_in_round s) (opening K s) (suc s.bound) order

  -- States that `n` orders are counted, and that the next one is the order of this replay.
  pub record IsVisited (D : Outcome) (s : Scenario) (n : ℕ) (names : Order) (findings : List Finding) : Type 0 where
    pub before : List Order
    pub count : length before ≡ n
    pub split : orders K s ≡ before ++ (here s names ∷ after s (here s names))
    pub tally : IsTally K D s before findings

  module _ (good : AreCampaigns K) (D : Outcome) (s : Scenario) (is : IsScenario s) where
    complete : (names : Order) → IsComplete K s (replayed K s names)
    complete names = replayed_complete K s (good s is) names

    from : (names : Order) → IsFrom K (opening K s) (suc s.bound) (here s names)
    from names = order_walks K good s (replayed K s names) is (complete names)

    short : (names : Order) → AreShort (most_in_round s) (here s names)
    short names = order_short K good s (replayed K s names) is (complete names)

    starts : orders K s ≡ here s [] ∷ after s (here s [])
    starts = from_first K (most_in_round s) (suc s.bound) (opening K s) (here s []) (from []) (short []) (replay_completes K s [] (good s is) tt)

    goes_on : (names next : Order) → next_order (here s names) ≡ Some next → after s (here s names) ≡ here s next ∷ after s (here s next)
    goes_on names next e =
        let walks = walks_next K (suc s.bound) (opening K s) (here s names) (from names) next e in
        from_next K (most_in_round s) (suc s.bound) (opening K s) (here s names) (from names) (short names) next e (here s next) (from next) (short next) (replay_completes K s next (good s is) walks)

    stops : (names : Order) → next_order (here s names) ≡ None → after s (here s names) ≡ []
    stops names e = from_last K (most_in_round s) (suc s.bound) (opening K s) (here s names) (from names) (short names) e

    pub visit_first : IsVisited D s 0 [] []
    visit_first = record { before = []; count = refl; split = starts; tally = no_tally K D s }

    same_outcome : (names : Order) → outcome_of K D s (here s names) ≡ D (run K (opening K s) (replayed K s names))
    same_outcome names = ap D (again K good s (replayed K s names) is (complete names))

    one_more : (n : ℕ) (names : Order) (findings : List Finding) → (v : IsVisited D s n names findings) → IsTally K D s (v.before ++ here s names ∷ []) (entered findings (D (run K (opening K s) (replayed K s names))) (here s names))
    one_more n names findings v =
        let A : List ℕ → Type 0 = λ ds. IsTally K D s (v.before ++ here s names ∷ []) (entered findings ds (here s names)) in
        subst A (same_outcome names) (tally_more K D s v.before (here s names) findings v.tally)

    pub visit_next : (n : ℕ) (names next : Order) (findings : List Finding) → IsVisited D s n names findings → next_order (here s names) ≡ Some next →
        IsVisited D s (suc n) next (entered findings (D (run K (opening K s) (replayed K s names))) (here s names))
    visit_next n names next findings v e = record {
      before = v.before ++ here s names ∷ [];
      count = length-append v.before (here s names ∷ []) ∙ (let c = v.count in omega arith);
      split = v.split ∙ (ap (λ (l : List Order). v.before ++ (here s names ∷ l)) (goes_on names next e) ∙ sym (append_assoc v.before (here s names ∷ []) (here s next ∷ after s (here s next))));
      tally = one_more n names findings v;
    }

    pub visit_counts : (n : ℕ) (names : Order) (findings : List Finding) → IsVisited D s n names findings → counted_in (entered findings (D (run K (opening K s) (replayed K s names))) (here s names)) ≡ n + 1
    visit_counts n names findings v =
        let t = (one_more n names findings v).total in
        let l = length-append v.before (here s names ∷ []) in
        let c = v.count in
        omega arith

    real : (V : List Order) (f : Finding) → ((x : Order) → Has V x → Has (orders K s) x) → IsCounted K D s V f → IsReal K D s f
    real V f all h = record { example = ((orders_are_whole K good).all s f.example is).0 (all f.example h.example); outcome = h.outcome; some = h.some }

    pub explored : (findings : List Finding) → IsTally K D s (orders K s) findings → IsExplored K D s findings
    explored findings t = record {
      each = All-weaker (IsCounted K D s (orders K s)) (IsFinding K D s) (λ f h. record { real = real (orders K s) f (λ x k. k) h; count = h.count }) findings (All-from_recursion (IsCounted K D s (orders K s)) findings t.each);
      different = t.different;
      whole = λ events c.
          let order = order_of K s events in
          let A : List ℕ → Type 0 = λ ds. Has (outcomes_of findings) ds in
          subst A (ap D (again K good s events is c)) (t.whole order (((orders_are_whole K good).all s order is).1 (events, c, refl)));
      total = t.total;
    }

    pub visit_last : (n : ℕ) (names : Order) (findings : List Finding) → IsVisited D s n names findings → next_order (here s names) ≡ None →
        IsExplored K D s (entered findings (D (run K (opening K s) (replayed K s names))) (here s names))
    visit_last n names findings v e =
        let new = entered findings (D (run K (opening K s) (replayed K s names))) (here s names) in
        let all : orders K s ≡ v.before ++ here s names ∷ [] = v.split ∙ ap (λ (l : List Order). v.before ++ (here s names ∷ l)) (stops names e) in
        let A : List Order → Type 0 = λ V. IsTally K D s V new in
        explored new (subst A (sym all) (one_more n names findings v))

    -- States that each example is the first order that leads to its decisions.
    abbrev pub AreFirst : List Finding → Type 0
    AreFirst findings = All (λ (f : Finding). first_to K D s (orders K s) f.decisions ≡ Some f.example) findings

    are_first : (V rest : List Order) (findings : List Finding) → IsTally K D s V findings → orders K s ≡ V ++ rest → AreFirst findings
    are_first V rest findings t e =
        All-weaker (IsCounted K D s V) (λ (f : Finding). first_to K D s (orders K s) f.decisions ≡ Some f.example)
        (λ f h. subst (λ (l : List Order). first_to K D s l f.decisions ≡ Some f.example) (sym e) (first_stays K D s V rest f.decisions f.example h.first)) findings
        (All-from_recursion (IsCounted K D s V) findings t.each)

    pub last_first : (n : ℕ) (names : Order) (findings : List Finding) → IsVisited D s n names findings → next_order (here s names) ≡ None →
        AreFirst (entered findings (D (run K (opening K s) (replayed K s names))) (here s names))
    last_first n names findings v e =
        let all : orders K s ≡ v.before ++ here s names ∷ [] = v.split ∙ ap (λ (l : List Order). v.before ++ (here s names ∷ l)) (stops names e) in
        are_first (v.before ++ here s names ∷ []) [] (entered findings (D (run K (opening K s) (replayed K s names))) (here s names)) (one_more n names findings v)
        (all ∙ sym (append-nil (v.before ++ here s names ∷ [])))

    pub limit_first : (n : ℕ) (names : Order) (findings : List Finding) → IsVisited D s n names findings → AreFirst findings
    limit_first n names findings v = are_first v.before (here s names ∷ after s (here s names)) findings v.tally v.split

    front : (V rest : List Order) → take (length V) (V ++ rest) ≡ V
    front [] rest = refl
    front (o ∷ V) rest = ap (λ (l : List Order). o ∷ l) (front V rest)

    pub visit_limit : (n : ℕ) (names : Order) (findings : List Finding) → IsVisited D s n names findings → IsExploredInPart K D s n findings
    visit_limit n names findings v =
        let rest = here s names ∷ after s (here s names) in
        let all : (x : Order) → Has v.before x → Has (orders K s) x = (λ x h. (let B : List Order → Type 0 = λ l. Has l x in subst B (sym v.split) (has-append_to v.before rest x (inl h)))) in
        let fewer : (ds : List ℕ) → ways_among K D s v.before ds ≤ ways_among K D s (orders K s) ds = (λ ds.
        let f : Order → ℕ = λ order. cond (bytes_eq (outcome_of K D s order) ds) 1 0 in
        let a = sum_by-append f v.before rest in
        let b : ways_among K D s (orders K s) ds ≡ ways_among K D s (v.before ++ rest) ds = ap (λ (l : List Order). ways_among K D s l ds) v.split in
        omega arith) in
        record {
          each = All-weaker (IsCounted K D s v.before) (IsLowerFinding K D s) (λ f h. record { real = real v.before f all h; count = (let l = fewer f.decisions in let c = h.count in omega arith) }) findings
              (All-from_recursion (IsCounted K D s v.before) findings v.tally.each);
          different = v.tally.different;
          total = v.tally.total ∙ v.count;
          more = (let l = ap length v.split in let m = length-append v.before rest in let c = v.count in omega arith);
          counts =
              let e : take n (orders K s) ≡ v.before = (λ i. take (sym v.count i) (v.split i)) ∙ front v.before rest in
              All-weaker (IsCounted K D s v.before) (λ (f : Finding). f.count ≡ ways_among K D s (take n (orders K s)) f.decisions)
              (λ f h. h.count ∙ ap (λ (l : List Order). ways_among K D s l f.decisions) (sym e)) findings (All-from_recursion (IsCounted K D s v.before) findings v.tally.each);
        }
