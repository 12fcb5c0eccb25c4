-- Defines what `explore` prints about a campaign, and the schedules that it writes to files. An order, here, is a
-- sequence in which the campaign's accesses to the board can happen.
use Rattle.std.specs.Prelude.{ℕ, ◌≡◌, ◌-◌, ◌^◌, List, All, Option, unwrap_or}
use Rattle.campaign_orders.specs.Exploring.{Exploration, Finding, IsExploration}
use Rattle.campaign_orders.specs.Keeping.{IsKept}
use Rattle.campaign_orders.specs.Outcomes.{oral_outcome}
use Rattle.campaign_orders.specs.Text.{exploration_text}
use Rattle.round.specs.Scenario.{Scenario}
use Rattle.scenario.specs.Reading.{Tells}
use Rattle.world.specs.Promises.{AgreeIfTolerable}
use Rattle.world.specs.World.{oral_kind}

-- Returns how many orders are counted at most: the given number, or 2^64 - 1 if all orders should be counted.
abbrev pub limit : Option ℕ → ℕ
limit most = unwrap_or most (2 ^ 64 - 1)

-- States that `text` lists the outcomes of all orders of an oral campaign. If there are more than `most` orders, it
-- covers only the `most` least ones. The decisions of each outcome agree if the traitors are few enough.
pub record IsExplored (s : Scenario) (most : ℕ) (text : List ℕ) : Type 0 where
  pub exploration : Exploration
  pub explores : IsExploration oral_kind oral_outcome s most exploration
  pub told : text ≡ exploration_text oral_kind s exploration
  pub agree : All (λ (f : Finding). AgreeIfTolerable s f.decisions) exploration.findings

-- States that the file describes an oral campaign, and that `text` lists the outcomes of its orders.
abbrev pub Explores : Option ℕ → List ℕ → List ℕ → Type 0
Explores most first text = (s : Scenario) × Tells first s × IsExplored s (limit most) text

-- States that the file describes an oral campaign, and that `text` lists the outcomes of its orders. `schedules` has
-- the text of a schedule for each outcome, in the same order.
pub record KeepsOrders (most : Option ℕ) (first text : List ℕ) (schedules : List (List ℕ)) : Type 0 where
  pub scenario : Scenario
  pub tells : Tells first scenario
  pub kept : IsKept scenario (limit most) text schedules
