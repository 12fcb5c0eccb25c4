-- What holds for the activations, accesses and letters of a complete list of events.
use Rattle.std.proofs.Common.{◌≡◌, List, sym, subst}
use Rattle.round.specs.Scenario.{Scenario, IsScenario}
use Rattle.world.specs.declared.event.Event.{Event}
use Rattle.world.specs.Campaigns.{AreCampaigns}
use Rattle.world.specs.Chronicle.{Chronicle, chronicle_of}
use Rattle.world.specs.Kind.{Kind, opening, run}
use Rattle.world.specs.KindLists.{IsComplete}
use Rattle.world.specs.Promises.{AreSafeThroughout, AreWhole}
use Rattle.world.specs.World.{oral_kind}
use Rattle.world.proofs.Campaigns.{oral_campaigns}
use Rattle.world.proofs.Replaying.{runs_are_accounted}
use Rattle.world.proofs.Untrapped.{activations_are_safe}

module _ (K : Kind) (good : AreCampaigns K) (s : Scenario) (events : List Event) (is : IsScenario s) where
  pub safe_throughout : AreSafeThroughout K s events
  safe_throughout before after g a whole at =
      let safe = activations_are_safe K good in
      record { untrapped = λ cause on. safe.untrapped s before g a cause is at on; fewer = safe.fewer s before g a is at }

  pub whole_letters : IsComplete K s events → AreWhole K s (run K (opening K s) events).ledger (run K (opening K s) events).closed
  whole_letters complete =
      let both = (runs_are_accounted K good).rounds s events is complete in record { legal = both.0; accounted = both.1 }

-- The letters of an oral chronicle are complete.
pub whole_told : (s : Scenario) (events : List Event) (c : Chronicle) → IsScenario s → IsComplete oral_kind s events → c ≡ chronicle_of (run oral_kind (opening oral_kind s) events) →
    AreWhole oral_kind s c.accesses c.letters
whole_told s events c is complete same =
    subst (λ (d : Chronicle). AreWhole oral_kind s d.accesses d.letters) (sym same) (whole_letters oral_kind oral_campaigns s events is complete)
