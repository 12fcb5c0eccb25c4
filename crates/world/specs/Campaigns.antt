-- What the definitions of oral or signed campaigns must guarantee (own).
use Rattle.std.specs.Prelude.{ℕ, suc, ◌≡◌, ◌<◌, ◌≤◌, List, length}
use Rattle.semantics.specs.Relay.{IsContext, IsRelay, Oral}
use Rattle.round.specs.Scenario.{Scenario, IsScenario}
use Rattle.round.specs.Letters.{Letter}
use Rattle.round.specs.Contexts.{IsToldTo, shape_told, tells_oral}
use Rattle.world.specs.Kind.{Kind}

-- States that the scenario is within its limits, and that in each round every general's context and relay (the labels
-- that he relays, and how) satisfy what sound programs require.
pub record IsCampaign (K : Kind) (s : Scenario) : Type 0 where
  pub scenario : IsScenario s
  pub context : (closed : List (List Letter)) (g : ℕ) → g < s.generals → length closed ≤ s.bound →
      IsContext (K.context s closed g)
  pub relay : (closed : List (List Letter)) (g : ℕ) → g < s.generals → length closed ≤ s.bound →
      IsRelay (K.relay s closed g)

-- States that a general's context contains his number, the round, the number of generals and the commander. It also
-- says whether his relay is oral.
pub record TellsRelays (K : Kind) (s : Scenario) : Type 0 where
  pub own : (closed : List (List Letter)) (g : ℕ) → g < s.generals → length closed ≤ s.bound →
      IsToldTo g (suc (length closed)) (K.context s closed g)
  pub shape : (closed : List (List Letter)) (g : ℕ) → g < s.generals → length closed ≤ s.bound →
      (K.relay s closed g).shape ≡ shape_told g (suc (length closed)) (K.context s closed g)
  pub kind : (closed : List (List Letter)) (g : ℕ) → g < s.generals → length closed ≤ s.bound →
      tells_oral (K.context s closed g) → (K.relay s closed g).kind ≡ Oral

-- States that every scenario within its limits is a campaign of this kind (oral or signed).
abbrev pub AreCampaigns : Kind → Type 0
AreCampaigns K = (s : Scenario) → IsScenario s → IsCampaign K s

-- States that contexts describe the generals' relays in every scenario within its limits.
abbrev pub TellRelays : Kind → Type 0
TellRelays K = (s : Scenario) → IsScenario s → TellsRelays K s
