-- What holds for the chronicle of a complete list of events.
use Rattle.std.proofs.Common.{◌≡◌, ℕ, suc, Bool, List, length, sym, ap, subst, ◌∙◌}
use Rattle.std.proofs.lemmas.List.{length-map}
use Rattle.label.specs.Lieutenants.{lieutenants, AgreeInList}
use Rattle.board.specs.Ledger.{RecordedBoard}
use Rattle.round.specs.Letters.{Letter}
use Rattle.round.specs.Scenario.{Scenario, IsScenario, is_traitor}
use Rattle.world.specs.declared.event.Event.{Event}
use Rattle.world.specs.declared.part.Progress.{Progress}
use Rattle.world.specs.declared.verdict.Verdict.{Verdict}
use Rattle.world.specs.Agreement.{IsFinished}
use Rattle.world.specs.Chronicle.{Chronicle}
use Rattle.world.specs.Kind.{World}
use Rattle.world.specs.KindHeld.{world_of}
use Rattle.world.specs.KindLists.{IsComplete}
use Rattle.world.specs.Promises.{AreWhole, IsWellUnderBound}
use Rattle.world.proofs.Punctual.{punctual_full}
use Rattle.world.proofs.Promised.{whole_letters}
use Rattle.signed.specs.Accepted.{decided}
use Rattle.signed.specs.Chronicle.{signed_chronicle_of, signed_decisions, signed_verdict_of}
use Rattle.signed.specs.Kind.{signed_kind, played, accepted_in}
use Rattle.signed.specs.Promises.{AgreeUnderSignedBound, IsSignedVerdictOn}
use Rattle.signed.specs.Sending.{IsSignedHeld}
use Rattle.signed.specs.Sent.{Sent}
use Rattle.signed.specs.Signers.{Signature}
use Rattle.signed.proofs.Concluding.{same_scenario}
use Rattle.signed.proofs.Verdicts.{proved_verdicts}
use Rattle.signed.proofs.Worlds.{signed_campaigns}

-- Complete events lead to a finished world.
pub complete_finished : (s : Scenario) (events : List Event) → IsComplete signed_kind s events → IsFinished (played s events)
complete_finished s events complete = record {
  closed = complete.closed ∙ ap (λ (t : Scenario). suc t.bound) (sym (same_scenario s events));
  full = punctual_full signed_kind s events complete.punctual;
}

-- In a finished world the loyal lieutenants' decisions agree.
pub held_agree : (s : Scenario) (closed : List (List Letter)) (k : RecordedBoard) (opened : ℕ) (ps : List Progress) (full : Bool) (sent : Sent) (signers : List Signature) (w : World) (xs : List ℕ) → IsScenario s → IsSignedHeld s closed k opened ps full sent signers →
    world_of s closed k opened ps full ≡ w → xs ≡ signed_decisions w.scenario w.closed → IsFinished w → AgreeUnderSignedBound w.scenario xs
held_agree s closed k opened ps full sent signers w xs is h same decided_all done =
    let Q : World → Type 0 = λ v. IsFinished v → AgreeUnderSignedBound s (signed_decisions s v.closed) in
    let A : World → Type 0 = λ v. IsFinished v → AgreeUnderSignedBound v.scenario (signed_decisions v.scenario v.closed) in
    let here : A (world_of s closed k opened ps full) = subst Q h.reached.1 (λ over bound. proved_verdicts.decided s h.reached.0 is bound over) in
    subst (λ (ds : List ℕ). AgreeUnderSignedBound w.scenario ds) (sym decided_all) (subst A same here done)

decisions_long : (s : Scenario) (closed : List (List Letter)) → length (signed_decisions s closed) ≡ length (lieutenants s.generals s.commander)
unfolding signed_decisions
decisions_long s closed = length-map (lieutenants s.generals s.commander) (λ p. decided (accepted_in s closed p))

module _ (s : Scenario) (events : List Event) (c : Chronicle) (is : IsScenario s) (complete : IsComplete signed_kind s events) (same : c ≡ signed_chronicle_of (played s events)) where
  decided_is : c.decisions ≡ signed_decisions s (played s events).closed
  decided_is = ap (λ (d : Chronicle). d.decisions) same ∙ ap (λ (t : Scenario). signed_decisions t (played s events).closed) (same_scenario s events)

  pub promised_decisions : c.decisions ≡ signed_decisions s c.letters
  promised_decisions = decided_is ∙ ap (λ (rounds : List (List Letter)). signed_decisions s rounds) (sym (ap (λ (d : Chronicle). d.letters) same))

  pub promised_letters : AreWhole signed_kind s c.accesses c.letters
  promised_letters =
      subst (λ (d : Chronicle). AreWhole signed_kind s d.accesses d.letters) (sym same) (whole_letters signed_kind signed_campaigns s events is complete)

  pub promised_agree : AgreeUnderSignedBound s c.decisions
  promised_agree bound =
      subst (λ (ds : List ℕ). AgreeInList s.generals s.commander s.order (is_traitor s) ds) (sym decided_is)
      (proved_verdicts.decided s events is bound (complete_finished s events complete))

  judged : c.verdict ≡ signed_verdict_of s c.decisions
  judged =
      ap (λ (d : Chronicle). d.verdict) same
      ∙ (ap (λ (t : Scenario). signed_verdict_of t (signed_decisions t (played s events).closed)) (same_scenario s events) ∙ ap (signed_verdict_of s) (sym decided_is))

  pub promised_verdict : IsSignedVerdictOn s c.decisions c.verdict
  promised_verdict =
      let ds = c.decisions in
      let count : length ds ≡ length (lieutenants s.generals s.commander) = ap length decided_is ∙ decisions_long s (played s events).closed in
      subst (λ (v : Verdict). IsSignedVerdictOn s ds v) (sym judged) (record {
        bound = (λ yes_bound. record { enough = is.enough; few = (proved_verdicts.bound s ds).0 yes_bound }, λ holds. (proved_verdicts.bound s ds).1 holds.few);
        alike = proved_verdicts.alike s ds count;
        obeyed = proved_verdicts.obeyed s ds count;
        none = proved_verdicts.none s ds;
      })

  pub promised_well : IsWellUnderBound c.verdict
  promised_well = subst (λ (d : Chronicle). IsWellUnderBound d.verdict) (sym same) (proved_verdicts.kept s events is (complete_finished s events complete))
