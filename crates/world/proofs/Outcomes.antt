-- Decisions and verdicts of finished campaigns.
use Rattle.std.proofs.Common.{◌≡◌, ℕ, ◌<◌, List, Bool, true, length, arith, sym, ap, subst, ◌∙◌}
use Rattle.std.proofs.lemmas.List.{length-map}
use Rattle.label.specs.Oral.{Messages}
use Rattle.label.specs.Lieutenants.{lieutenants, AgreeInList}
use Rattle.board.specs.Ledger.{RecordedBoard}
use Rattle.round.specs.Scenario.{Scenario, IsScenario, is_traitor}
use Rattle.round.specs.Letters.{Letter, messages}
use Rattle.world.specs.declared.event.Event.{Event}
use Rattle.world.specs.declared.verdict.Verdict.{Verdict}
use Rattle.world.specs.Part.{Progress}
use Rattle.world.specs.World.{oral_kind, World, opening, run}
use Rattle.world.specs.Reached.{world_of, IsHeld}
use Rattle.world.specs.Agreement.{IsFinished}
use Rattle.world.specs.Chronicle.{Chronicle, decisions, verdict_of, chronicle_of}
use Rattle.world.specs.Promises.{AgreeIfTolerable, IsVerdictOn, IsWellUnderBound}
use Rattle.world.proofs.Punctual.{run_scenario}
use Rattle.world.proofs.Holding.{held_few}
use Rattle.world.proofs.Verdicts.{proved_decisions_agree, proved_verdicts_mean}

-- In a finished world the loyal lieutenants agree if the traitors are few enough.
pub held_agree : (s : Scenario) (closed : List (List Letter)) (k : RecordedBoard) (opened : ℕ) (ps : List Progress) (full : Bool) → IsScenario s → IsHeld s closed k opened ps full → IsFinished (world_of s closed k opened ps full) →
    AgreeIfTolerable s (decisions s (messages closed))
held_agree s closed k opened ps full is h done bound =
    let Q : World → Type 0 = λ v. IsFinished v → AgreeInList s.generals s.commander s.order (is_traitor s) (decisions s (messages v.closed)) in
    subst Q h.reached.1 (λ over. proved_decisions_agree s h.reached.0 is over bound) done

pub decided_agree : (s : Scenario) (closed : List (List Letter)) (k : RecordedBoard) (opened : ℕ) (ps : List Progress) (full : Bool) (w : World) (xs : List ℕ) → IsScenario s → IsHeld s closed k opened ps full → world_of s closed k opened ps full ≡ w →
    xs ≡ decisions w.scenario (messages w.closed) → IsFinished w → AgreeIfTolerable w.scenario xs
decided_agree s closed k opened ps full w xs is h same decided done =
    let A : World → Type 0 = λ v. IsFinished v → AgreeIfTolerable v.scenario (decisions v.scenario (messages v.closed)) in
    subst (λ (ds : List ℕ). AgreeIfTolerable w.scenario ds) (sym decided) (subst A same (held_agree s closed k opened ps full is h) done)

-- A world is finished if no round is open and every loyal general had posted in each.
pub is_done : (s : Scenario) (closed : List (List Letter)) (k : RecordedBoard) (opened : ℕ) (ps : List Progress) (full : Bool) (w : World) (len from : ℕ) → IsScenario s → IsHeld s closed k opened ps full → world_of s closed k opened ps full ≡ w →
    len ≡ length closed → from ≡ s.bound → from < len → full ≡ true → IsFinished w
is_done s closed k opened ps full w len from is h same counted bound past filled =
    let few = held_few oral_kind s closed k opened ps full is h in
    subst (λ (v : World). IsFinished v) same (record { closed = omega arith; full = filled })

long : (s : Scenario) (M : Messages) → length (decisions s M) ≡ length (lieutenants s.generals s.commander)
unfolding decisions
long s M = length-map (lieutenants s.generals s.commander) _

module _ (s : Scenario) (events : List Event) (c : Chronicle) (is : IsScenario s) (done : IsFinished (run (opening s) events)) (same : c ≡ chronicle_of (run (opening s) events)) where
  decided : c.decisions ≡ decisions s (messages (run (opening s) events).closed)
  decided = ap (λ (d : Chronicle). d.decisions) same ∙ ap (λ (t : Scenario). decisions t (messages (run (opening s) events).closed)) (run_scenario oral_kind events (opening s))

  pub finished_decisions : c.decisions ≡ decisions s (messages c.letters)
  finished_decisions = decided ∙ ap (λ (rounds : List (List Letter)). decisions s (messages rounds)) (sym (ap (λ (d : Chronicle). d.letters) same))

  pub finished_agree : AgreeIfTolerable s c.decisions
  finished_agree bound = subst (λ (ds : List ℕ). AgreeInList s.generals s.commander s.order (is_traitor s) ds) (sym decided) (proved_decisions_agree s events is done bound)

  judged : c.verdict ≡ verdict_of s c.decisions
  judged =
      ap (λ (d : Chronicle). d.verdict) same
      ∙ (ap (λ (t : Scenario). verdict_of t (decisions t (messages (run (opening s) events).closed))) (run_scenario oral_kind events (opening s)) ∙ ap (verdict_of s) (sym decided))

  pub finished_verdict : IsVerdictOn s c.decisions c.verdict
  finished_verdict =
      let ds = c.decisions in
      let count : length ds ≡ length (lieutenants s.generals s.commander) = ap length decided ∙ long s (messages (run (opening s) events).closed) in
      subst (λ (v : Verdict). IsVerdictOn s ds v) (sym judged) (record {
        bound = proved_verdicts_mean.bound s ds;
        alike = proved_verdicts_mean.alike s ds count;
        obeyed = proved_verdicts_mean.obeyed s ds count;
        none = proved_verdicts_mean.none s ds;
      })

  pub finished_well : IsWellUnderBound c.verdict
  finished_well = subst (λ (d : Chronicle). IsWellUnderBound d.verdict) (sym same) (proved_verdicts_mean.kept s events is done)
