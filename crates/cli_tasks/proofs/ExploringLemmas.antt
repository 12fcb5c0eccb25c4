-- The text that `explore` prints is what `IsExplored` states.
use Rattle.std.proofs.Common.{ℕ, ◌≡◌, List, Option, subst}
use Rattle.campaign_orders.specs.Agreeing.{FindingsAgree}
use Rattle.campaign_orders.specs.Exploring.{Exploration, IsExploration}
use Rattle.campaign_orders.specs.Keeping.{IsKept}
use Rattle.campaign_orders.specs.Outcomes.{oral_outcome}
use Rattle.campaign_orders.specs.Text.{exploration_text}
use Rattle.round.specs.Scenario.{Scenario, IsScenario}
use Rattle.world.specs.World.{oral_kind}
use Rattle.scenario.specs.Reading.{Tells}
use Rattle.cli_tasks.specs.Exploring.{IsExplored, KeepsOrders, limit}

pub is_explored : (s : Scenario) (most : ℕ) (text : List ℕ) → FindingsAgree → IsScenario s
    → ((e : Exploration) × IsExploration oral_kind oral_outcome s most e × (text ≡ exploration_text oral_kind s e)) → IsExplored s most text
is_explored s most text agrees inside (e, is, told) = record { exploration = e; explores = is; told = told; agree = agrees s most e inside is }

pub keeps_orders : (s : Scenario) (most : Option ℕ) (n : ℕ) (first text : List ℕ) (schedules : List (List ℕ)) → Tells first s → n ≡ limit most → IsKept s n text schedules
    → KeepsOrders most first text schedules
keeps_orders s most n first text schedules tells is kept = record { scenario = s; tells = tells; kept = subst (λ (m : ℕ). IsKept s m text schedules) is kept }
