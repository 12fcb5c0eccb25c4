-- The schedules that an exploration keeps lead to its outcomes (own). The statement is the contract of a function of
-- this crate.
use Rattle.std.specs.Prelude.{ℕ, ◌≡◌, List}
use Rattle.std.specs.List.{AllZip}
use Rattle.round.specs.Scenario.{Scenario}
use Rattle.world.specs.declared.schedule.Repeat.{Repeat}
use Rattle.world.specs.Chronicle.{chronicle_of}
use Rattle.world.specs.Lists.{listed}
use Rattle.world.specs.Schedules.{lines_by}
use Rattle.world.specs.World.{opening, run, oral_kind}
use Rattle.campaign_orders.specs.Exploring.{Finding}
use Rattle.campaign_orders.specs.Keeping.{IsKept}
use Rattle.campaign_orders.specs.Orders.{order_of}
use Rattle.campaign_schedules.specs.Reading.{IsReadAs}

-- States that the text contains a schedule, and that a campaign played by it leads to the decisions of the finding.
-- The accesses then come in the order of the finding's example.
pub record GivesOutcome (s : Scenario) (f : Finding) (text : List ℕ) : Type 0 where
  pub schedule : List (List Repeat)
  pub read : IsReadAs text schedule
  pub outcome : (chronicle_of (run (opening s) (listed s (lines_by schedule)))).decisions ≡ f.decisions
  pub order : order_of oral_kind s (listed s (lines_by schedule)) ≡ f.example

-- States that every schedule that an exploration keeps leads to its outcome when it is played.
abbrev pub KeptSchedulesPlay : Scenario → Type 0
KeptSchedulesPlay s =
    (most : ℕ) (text : List ℕ) (schedules : List (List ℕ)) (kept : IsKept s most text schedules) →
    AllZip (GivesOutcome s) kept.exploration.findings schedules
