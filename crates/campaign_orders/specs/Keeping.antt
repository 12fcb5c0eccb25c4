-- An exploration with a schedule for each outcome (own).
use Rattle.std.specs.Prelude.{ℕ, ◌≡◌, ◌≤◌, List, All, length, map}
use Rattle.round.specs.Scenario.{Scenario}
use Rattle.world.specs.Kind.{Kind, opening}
use Rattle.world.specs.Promises.{AgreeIfTolerable}
use Rattle.world.specs.World.{oral_kind}
use Rattle.campaign_orders.specs.Exploring.{Exploration, Finding, IsExploration}
use Rattle.campaign_orders.specs.Outcomes.{oral_outcome}
use Rattle.campaign_orders.specs.Schedules.{schedule_from}
use Rattle.campaign_orders.specs.Text.{exploration_text, schedule_text}

-- Returns the text of the schedule for the order that is a finding's example.
abbrev pub example_text : Kind → Scenario → Finding → List ℕ
example_text K s f = schedule_text (schedule_from K (opening K s) f.example)

-- States that the text is that of an exploration, and that `schedules` are the texts of the schedules for its examples,
-- each of at most 1,048,576 bytes. In each outcome the loyal lieutenants agree if the traitors are
-- few enough.
pub record IsKept (s : Scenario) (most : ℕ) (text : List ℕ) (schedules : List (List ℕ)) : Type 0 where
  pub exploration : Exploration
  pub explores : IsExploration oral_kind oral_outcome s most exploration
  pub told : text ≡ exploration_text oral_kind s exploration
  pub agree : All (λ (f : Finding). AgreeIfTolerable s f.decisions) exploration.findings
  pub kept : schedules ≡ map (example_text oral_kind s) exploration.findings
  pub short : All (λ (text : List ℕ). length text ≤ 1048576) schedules
