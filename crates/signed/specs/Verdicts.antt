-- What the verdict on a signed campaign means (TOPLAS 1982, IC1, IC2 and Theorem 2). The last statement is the contract
-- of a function of this crate.
use Rattle.std.specs.Prelude.{ℕ, ◌≤◌, ◌≡◌, ◌≢◌, ◌↔◌, true, false, List, length, count_by, Some, None}
use Rattle.label.specs.Labels.{generals}
use Rattle.label.specs.Lieutenants.{lieutenants, AgreeInList}
use Rattle.round.specs.Scenario.{Scenario, IsScenario, is_traitor}
use Rattle.world.specs.declared.event.Event.{Event}
use Rattle.world.specs.Agreement.{AreAlike, AreObedient, IsFinished}
use Rattle.signed.specs.Agreement.{IsSignedBound}
use Rattle.signed.specs.Kind.{played}
use Rattle.signed.specs.Chronicle.{signed_decisions, signed_verdict_of, signed_chronicle_of}

-- States what the fields of a verdict mean. `obeyed` is `None` exactly if the commander is a traitor. In a finished
-- world with at most m traitors the loyal lieutenants agree, and the verdict says so.
pub record SignedVerdictsMean : Type 0 where
  pub bound : (s : Scenario) (ds : List ℕ) →
      ((signed_verdict_of s ds).bound ≡ true) ↔ (count_by (is_traitor s) (generals s.generals) ≤ s.bound)
  pub alike : (s : Scenario) (ds : List ℕ) → length ds ≡ length (lieutenants s.generals s.commander) →
      ((signed_verdict_of s ds).alike ≡ true) ↔ AreAlike s ds
  pub obeyed : (s : Scenario) (ds : List ℕ) → length ds ≡ length (lieutenants s.generals s.commander) →
      is_traitor s s.commander ≡ false → ((signed_verdict_of s ds).obeyed ≡ Some true) ↔ AreObedient s ds
  pub none : (s : Scenario) (ds : List ℕ) → ((signed_verdict_of s ds).obeyed ≡ None) ↔ (is_traitor s s.commander ≡ true)
  pub decided : (s : Scenario) (events : List Event) → IsScenario s → IsSignedBound s.generals s.bound (is_traitor s) →
      IsFinished (played s events) →
      AgreeInList s.generals s.commander s.order (is_traitor s) (signed_decisions s (played s events).closed)
  pub kept : (s : Scenario) (events : List Event) → IsScenario s → IsFinished (played s events) →
      (signed_chronicle_of (played s events)).verdict.bound ≡ true →
      ((signed_chronicle_of (played s events)).verdict.alike ≡ true)
      × ((signed_chronicle_of (played s events)).verdict.obeyed ≢ Some false)
