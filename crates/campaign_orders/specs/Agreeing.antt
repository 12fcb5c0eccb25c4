-- Agreement in the outcomes that an exploration finds (TOPLAS 1982, Theorem 1).
use Rattle.std.specs.Prelude.{ℕ, All}
use Rattle.round.specs.Scenario.{Scenario, IsScenario}
use Rattle.world.specs.Promises.{AgreeIfTolerable}
use Rattle.world.specs.World.{oral_kind}
use Rattle.campaign_orders.specs.Outcomes.{oral_outcome}
use Rattle.campaign_orders.specs.Exploring.{Finding, Exploration, IsExploration}

-- States that in every outcome found for an oral campaign whose traitors are few enough, the loyal lieutenants decide
-- on the same order and obey a loyal commander.
abbrev pub FindingsAgree : Type 0
FindingsAgree =
    (s : Scenario) (most : ℕ) (e : Exploration) → IsScenario s → IsExploration oral_kind oral_outcome s most e →
    All (λ (f : Finding). AgreeIfTolerable s f.decisions) e.findings
