-- The lieutenants' decisions from the chains sent, one by one.
use Rattle.std.proofs.Common.{◌≡◌, ◌≢◌, ℕ, zero, suc, ◌+◌, ◌-◌, ◌<◌, ◌≤◌, not, List, [], ◌∷◌, ◌++◌, length, map, take, refl, sym, ap, subst, ◌∙◌, arith, inl, inr, append-nil, append_assoc, length-append}
use Rattle.std.specs.Prelude.{flat_map, filter}
use Rattle.std.proofs.lemmas.Bool.{cases_lt}
use Rattle.std.proofs.lemmas.List.{length-map}
use Rattle.std.proofs.lemmas.List.FromFn.{length-range_with_len}
use Rattle.label.specs.Labels.{on, generals, others}
use Rattle.label.specs.Lieutenants.{lieutenants}
use Rattle.label.proofs.Counting.{others-length}
use Rattle.label.proofs.Ranks.{all_kept}
use Rattle.round.specs.Scenario.{Scenario}
use Rattle.round.specs.Letters.{Letter}
use Rattle.world.proofs.Counted.{from, from_commander, from_lieutenant, range_none}
use Rattle.signed.specs.Accepted.{accepted, came, counted, counts, decided, firsts}
use Rattle.signed.specs.Chains.{Chain, orders}
use Rattle.signed.specs.Entries.{received}
use Rattle.signed.specs.Kind.{accepted_in}
use Rattle.signed.specs.Sending.{AreFirst, AreRows}
use Rattle.signed.specs.Sent.{Sent, delivered, sent_in}
use Rattle.signed.proofs.Behind.{rows_in}
use Rattle.signed.proofs.Making.{sent_past}

-- The first eight orders lead to the same decision as all.
first_decide : (xs : List ℕ) → decided (take 8 xs) ≡ decided xs
first_decide [] = refl
first_decide (v ∷ []) = refl
first_decide (v ∷ w ∷ vs) = refl

flat_none : (f : ℕ → List Chain) (gs : List ℕ) → ((g : ℕ) → f g ≡ []) → flat_map f gs ≡ []
flat_none f [] none = refl
flat_none f (g ∷ gs) none = (λ i. none g i ++ flat_none f gs none i)

-- Rounds without sent chains add no order.
came_past : (n : ℕ) (sent : Sent) (r p : ℕ) → length sent < r → came n (delivered sent) r p ≡ []
came_past n sent r p past = flat_none (λ g. delivered sent r g p) (generals n) (λ g. ap (received p) (sent_past sent r g past))

accepted_past : (n : ℕ) (sent : Sent) (p r : ℕ) → length sent < suc r → accepted n (delivered sent) (suc r) p ≡ accepted n (delivered sent) r p
unfolding accepted
accepted_past n sent p r past =
    ap (λ (xs : List Chain). accepted n (delivered sent) r p ++ orders (firsts (accepted n (delivered sent) r p) (filter (counts (suc r) p) xs))) (came_past n sent (suc r) p past)
    ∙ append-nil (accepted n (delivered sent) r p)

accepted_to : (n : ℕ) (sent : Sent) (p r : ℕ) → length sent ≤ r → accepted n (delivered sent) r p ≡ accepted n (delivered sent) (length sent) p
accepted_to n sent p zero le = ap (λ (k : ℕ). accepted n (delivered sent) k p) (let e : 0 ≡ length sent = omega arith in e)
accepted_to n sent p (suc r) le = elim (cases_lt r (length sent)) [
  | inl last ↦ ap (λ (k : ℕ). accepted n (delivered sent) k p) (let e : suc r ≡ length sent = omega arith in e)
  | inr past ↦ accepted_past n sent p r (omega arith) ∙ accepted_to n sent p r past
]

-- The decision of one lieutenant.
pub one_decides : (s : Scenario) (closed : List (List Letter)) (sent : Sent) (rounds p d : ℕ) (found : List ℕ) → sent ≡ sent_in s closed → rounds ≡ length sent → length sent ≤ suc s.bound →
    ((n : ℕ) → AreRows n sent → AreFirst found (accepted n (delivered sent) rounds p)) → d ≡ decided found → d ≡ decided (accepted_in s closed p)
one_decides s closed sent rounds p d found same counted few are is =
    let rows : AreRows s.generals sent = subst (λ (x : Sent). AreRows s.generals x) (sym same) (rows_in s closed) in
    is ∙ (ap decided (are s.generals rows)
    ∙ (first_decide (accepted s.generals (delivered sent) rounds p)
    ∙ ap decided (ap (λ (r : ℕ). accepted s.generals (delivered sent) r p) counted
    ∙ (sym (accepted_to s.generals sent p (suc s.bound) few) ∙ ap (λ (x : Sent). accepted s.generals (delivered x) (suc s.bound) p) same))))

-- States that these are the decisions of the lieutenants below `g`.
pub record HaveDecided (s : Scenario) (closed : List (List Letter)) (g : ℕ) (ds : List ℕ) : Type 0 where
  pub same : ds ++ map (λ p. decided (accepted_in s closed p)) (from s.generals s.commander g) ≡ map (λ p. decided (accepted_in s closed p)) (lieutenants s.generals s.commander)

module _ (s : Scenario) (closed : List (List Letter)) where
  abbrev f : ℕ → ℕ
  f p = decided (accepted_in s closed p)

  pub none_decided : HaveDecided s closed 0 []
  none_decided = record { same = (let e : s.generals - 0 ≡ s.generals = omega arith in rw e refl) }

  pub commander_decides : (g : ℕ) (ds : List ℕ) → HaveDecided s closed g ds → g < s.generals → g ≡ s.commander → HaveDecided s closed (g + 1) ds
  commander_decides g ds h lt is = record { same = ap (λ (gs : List ℕ). ds ++ map f gs) (sym (from_commander s.generals s.commander g lt is)) ∙ h.same }

  pub lieutenant_decides : (g d : ℕ) (ds new : List ℕ) → HaveDecided s closed g ds → g < s.generals → g ≢ s.commander → d ≡ f g → new ≡ ds ++ d ∷ [] → HaveDecided s closed (g + 1) new
  lieutenant_decides g d ds new h lt ne is more =
      let rest = map f (from s.generals s.commander (g + 1)) in
      record {
        same = (λ i. more i ++ rest) ∙ (append_assoc ds (d ∷ []) rest ∙ ((λ i. ds ++ is i ∷ rest) ∙ (ap (λ (gs : List ℕ). ds ++ map f gs) (sym (from_lieutenant s.generals s.commander g lt ne)) ∙ h.same)));
      }

  -- There is room for one more decision.
  pub few_decided : (g : ℕ) (ds : List ℕ) → HaveDecided s closed g ds → s.generals ≤ 13 → s.commander < s.generals → g < s.generals → g ≢ s.commander → length ds < 12
  few_decided g ds h size inside lt ne =
      let n = s.generals in
      let all : length (others n []) ≡ n = ap length (all_kept (generals n)) ∙ length-range_with_len 0 n in
      let one : length (others n []) ≡ 1 + length (lieutenants n s.commander) = others-length n [] s.commander inside refl in
      let whole : length (map f (lieutenants n s.commander)) ≡ length (lieutenants n s.commander) = length-map (lieutenants n s.commander) f in
      let long = ap length h.same in
      let split = length-append ds (map f (from n s.commander g)) in
      let here : length (map f (from n s.commander g)) ≡ suc (length (map f (from n s.commander (g + 1)))) = ap (λ (gs : List ℕ). length (map f gs)) (from_lieutenant n s.commander g lt ne) in
      omega arith

  pub all_decided : (g : ℕ) (ds : List ℕ) → HaveDecided s closed g ds → s.generals ≤ g → ds ≡ map f (lieutenants s.generals s.commander)
  all_decided g ds h past =
      let e : from s.generals s.commander g ≡ [] = ap (filter (λ j. not (on (s.commander ∷ []) j))) (range_none s.generals g past) in
      sym (append-nil ds) ∙ (ap (λ (gs : List ℕ). ds ++ map f gs) (sym e) ∙ h.same)
