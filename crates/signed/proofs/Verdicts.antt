-- Lists of decisions of signed campaigns, and what the verdict says of them.
use Rattle.std.proofs.Common.{◌≡◌, ◌≢◌, ℕ, ◌≤◌, List, length, map, Bool, true, false, sym, subst, ◌∙◌, ⊎_elim, Some, None}
use Rattle.std.specs.Prelude.{◌↔◌, count_by, slice_index}
use Rattle.std.proofs.lemmas.Bool.{cases_Bool, le-leb, leb-true}
use Rattle.std.proofs.lemmas.List.{length-map}
use Rattle.label.specs.Labels.{generals}
use Rattle.label.specs.Lieutenants.{lieutenants, AgreeInList}
use Rattle.book.proofs.Listed.{loyal_at, read_map}
use Rattle.round.specs.Scenario.{Scenario, IsScenario, is_traitor}
use Rattle.round.specs.Letters.{Letter}
use Rattle.world.specs.declared.event.Event.{Event}
use Rattle.world.specs.Agreement.{AreObedient, IsFinished}
use Rattle.world.proofs.Verdicts.{proved_verdicts_mean}
use Rattle.signed.specs.Accepted.{decided}
use Rattle.signed.specs.Agreement.{IsSignedBound, SignedAgree}
use Rattle.signed.specs.Kind.{played, accepted_in}
use Rattle.signed.specs.Chronicle.{signed_decisions, signed_verdict_of}
use Rattle.signed.specs.Verdicts.{SignedVerdictsMean}
use Rattle.signed.proofs.Concluding.{agree_in, same_scenario}

-- Decisions that agree, as a list by lieutenant.
in_list : (n c order : ℕ) (traitor : ℕ → Bool) (accepts : ℕ → List ℕ) → SignedAgree n c order traitor accepts → AgreeInList n c order traitor (map (λ p. decided (accepts p)) (lieutenants n c))
in_list n c order traitor accepts all = record {
  alike = λ i j a b. read_map (λ p. decided (accepts p)) (lieutenants n c) i a.within
      ∙ (all.alike (slice_index (lieutenants n c) i) (slice_index (lieutenants n c) j) (loyal_at n c traitor i a) (loyal_at n c traitor j b) ∙ sym (read_map (λ p. decided (accepts p)) (lieutenants n c) j b.within));
  obeyed = λ good i a. read_map (λ p. decided (accepts p)) (lieutenants n c) i a.within ∙ all.obeyed good (slice_index (lieutenants n c) i) (loyal_at n c traitor i a);
}

pub decisions_agree : (s : Scenario) (closed : List (List Letter)) → SignedAgree s.generals s.commander s.order (is_traitor s) (accepted_in s closed)
    → AgreeInList s.generals s.commander s.order (is_traitor s) (signed_decisions s closed)
unfolding signed_decisions
decisions_agree s closed all = in_list s.generals s.commander s.order (is_traitor s) (accepted_in s closed) all

decided_in : (s : Scenario) (events : List Event) → IsScenario s → IsSignedBound s.generals s.bound (is_traitor s) → IsFinished (played s events)
    → AgreeInList s.generals s.commander s.order (is_traitor s) (signed_decisions s (played s events).closed)
decided_in s events is bound f = decisions_agree s (played s events).closed (agree_in s events is bound f)

decisions_long : (s : Scenario) (closed : List (List Letter)) → length (signed_decisions s closed) ≡ length (lieutenants s.generals s.commander)
unfolding signed_decisions
decisions_long s closed = length-map (lieutenants s.generals s.commander) (λ p. decided (accepted_in s closed p))

pub bound_is : (s : Scenario) (ds : List ℕ) → ((signed_verdict_of s ds).bound ≡ true) ↔ (count_by (is_traitor s) (generals s.generals) ≤ s.bound)
bound_is s ds = (leb-true (count_by (is_traitor s) (generals s.generals)) s.bound, le-leb (count_by (is_traitor s) (generals s.generals)) s.bound)

never_disobeyed : (s : Scenario) (ds : List ℕ) → length ds ≡ length (lieutenants s.generals s.commander) → (is_traitor s s.commander ≡ false → AreObedient s ds) → (signed_verdict_of s ds).obeyed ≢ Some false
never_disobeyed s ds long h e =
    ⊎_elim
    (λ (x : is_traitor s s.commander ≡ true). absurd (let f : None ≡ Some false = sym ((proved_verdicts_mean.none s ds).1 x) ∙ e in cc))
    (λ (x : is_traitor s s.commander ≡ false). absurd (let f : Some true ≡ Some false = sym ((proved_verdicts_mean.obeyed s ds long x).1 (h x)) ∙ e in cc))
    (cases_Bool (is_traitor s s.commander))

-- If the decisions agree, the verdict says so.
pub all_well : (s : Scenario) (closed : List (List Letter)) → AgreeInList s.generals s.commander s.order (is_traitor s) (signed_decisions s closed)
    → ((signed_verdict_of s (signed_decisions s closed)).alike ≡ true) × ((signed_verdict_of s (signed_decisions s closed)).obeyed ≢ Some false)
all_well s closed a =
    let ds = signed_decisions s closed in
    let long = decisions_long s closed in
    ((proved_verdicts_mean.alike s ds long).1 a.alike, never_disobeyed s ds long a.obeyed)

kept_in : (s : Scenario) (events : List Event) → IsScenario s → IsFinished (played s events) → (signed_verdict_of s (signed_decisions s (played s events).closed)).bound ≡ true
    → ((signed_verdict_of s (signed_decisions s (played s events).closed)).alike ≡ true) × ((signed_verdict_of s (signed_decisions s (played s events).closed)).obeyed ≢ Some false)
kept_in s events is f b =
    let closed = (played s events).closed in
    all_well s closed (decided_in s events is (record { enough = is.enough; few = (bound_is s (signed_decisions s closed)).0 b }) f)

pub proved_verdicts : SignedVerdictsMean
proved_verdicts = record {
  bound = bound_is;
  alike = proved_verdicts_mean.alike;
  obeyed = proved_verdicts_mean.obeyed;
  none = proved_verdicts_mean.none;
  decided = decided_in;
  kept = λ s events is f b.
      let closed = (played s events).closed in
      let A : Scenario → Type 0 = λ t. (signed_verdict_of t (signed_decisions t closed)).bound ≡ true →
      ((signed_verdict_of t (signed_decisions t closed)).alike ≡ true) × ((signed_verdict_of t (signed_decisions t closed)).obeyed ≢ Some false) in
      subst A (sym (same_scenario s events)) (kept_in s events is f) b;
}
