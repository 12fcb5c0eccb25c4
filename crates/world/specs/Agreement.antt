-- Agreement of the loyal lieutenants, for the list of decisions and for the verdict (TOPLAS 1982, Theorem 1, IC1 and
-- IC2). Each law is the contract of a function of this crate.
use Rattle.std.specs.Prelude.{ℕ, suc, ◌≡◌, ◌≢◌, ◌<◌, ◌↔◌, true, false, List, length, count_by, slice_index, None, Some}
use Rattle.label.specs.Labels.{generals}
use Rattle.label.specs.Oral.{IsFaithful, IsBound, Agree}
use Rattle.label.specs.Lieutenants.{lieutenants, IsLoyalAt, AgreeInList}
use Rattle.bounds.specs.Tolerance.{IsTolerable}
use Rattle.round.specs.Scenario.{Scenario, IsScenario, is_traitor}
use Rattle.round.specs.Letters.{messages}
use Rattle.world.specs.declared.event.Event.{Event}
use Rattle.world.specs.World.{World, opening, run}
use Rattle.world.specs.Lists.{IsPunctual}
use Rattle.world.specs.Chronicle.{decision, decisions, verdict_of, chronicle_of}

-- States that all rounds of the world are closed, and that every loyal general had posted his letter in each of them.
pub record IsFinished (w : World) : Type 0 where
  pub closed : length w.closed ≡ suc w.scenario.bound
  pub full : w.full ≡ true

-- States that a scenario's traitors are few enough for OM(m), where m is the bound. There are none, or their number k is
-- at most m and there are more than 2k + m generals.
abbrev pub AreTolerable : Scenario → Type 0
AreTolerable s = IsTolerable s.generals s.bound (count_by (is_traitor s) (generals s.generals))

-- States that the traitors are few enough if the bound holds.
abbrev pub BoundSuffices : Type 0
BoundSuffices = (s : Scenario) → IsBound s.generals s.bound (is_traitor s) → AreTolerable s

-- States the agreement theorem for worlds. If events are punctual, every loyal general posts in each round. In a
-- finished world the loyal generals are faithful, and the loyal lieutenants' decisions agree if the traitors are few
-- enough.
pub record WorldsAgree : Type 0 where
  pub full : (s : Scenario) (events : List Event) → IsPunctual s events → (run (opening s) events).full ≡ true
  pub faithful : (s : Scenario) (events : List Event) → IsScenario s → IsFinished (run (opening s) events) → (g : ℕ) →
      g < s.generals → is_traitor s g ≡ false →
      IsFaithful s.generals s.commander s.bound s.order (messages (run (opening s) events).closed) g
  pub agree : (s : Scenario) (events : List Event) → IsScenario s → IsFinished (run (opening s) events) →
      AreTolerable s → Agree s.generals s.commander s.order (is_traitor s) (decision s (messages (run (opening s) events).closed))

-- States that the loyal lieutenants' decisions agree in a finished world whose traitors are few enough. The decisions
-- are a list, ascending by lieutenant.
abbrev pub DecisionsAgree : Type 0
DecisionsAgree = (s : Scenario) (events : List Event) → IsScenario s → IsFinished (run (opening s) events) →
    AreTolerable s →
    AgreeInList s.generals s.commander s.order (is_traitor s) (decisions s (messages (run (opening s) events).closed))

-- States that all loyal lieutenants decide on the same order (IC1).
abbrev pub AreAlike : Scenario → List ℕ → Type 0
AreAlike s ds = (i j : ℕ) → IsLoyalAt s.generals s.commander (is_traitor s) i →
    IsLoyalAt s.generals s.commander (is_traitor s) j → slice_index ds i ≡ slice_index ds j

-- States that each loyal lieutenant decides on the commander's order (IC2).
abbrev pub AreObedient : Scenario → List ℕ → Type 0
AreObedient s ds = (i : ℕ) → IsLoyalAt s.generals s.commander (is_traitor s) i → slice_index ds i ≡ s.order

-- States what the fields of a verdict mean. `obeyed` is `None` exactly if the commander is a traitor. If a finished
-- world's verdict says that the bound holds, it also says that the lieutenants decide alike, and does not say that they
-- disobey.
pub record VerdictsMean : Type 0 where
  pub bound : (s : Scenario) (ds : List ℕ) →
      ((verdict_of s ds).bound ≡ true) ↔ IsBound s.generals s.bound (is_traitor s)
  pub alike : (s : Scenario) (ds : List ℕ) → length ds ≡ length (lieutenants s.generals s.commander) →
      ((verdict_of s ds).alike ≡ true) ↔ AreAlike s ds
  pub obeyed : (s : Scenario) (ds : List ℕ) → length ds ≡ length (lieutenants s.generals s.commander) →
      is_traitor s s.commander ≡ false →
      ((verdict_of s ds).obeyed ≡ Some true) ↔ AreObedient s ds
  pub none : (s : Scenario) (ds : List ℕ) → ((verdict_of s ds).obeyed ≡ None) ↔ (is_traitor s s.commander ≡ true)
  pub kept : (s : Scenario) (events : List Event) → IsScenario s → IsFinished (run (opening s) events) →
      (chronicle_of (run (opening s) events)).verdict.bound ≡ true →
      ((chronicle_of (run (opening s) events)).verdict.alike ≡ true)
      × ((chronicle_of (run (opening s) events)).verdict.obeyed ≢ Some false)
