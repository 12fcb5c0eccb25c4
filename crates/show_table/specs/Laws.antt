-- Which chronicles have a message table. The statement is the contract of a function of this crate.
use Rattle.std.specs.Prelude.{List}
use Rattle.round.specs.Scenario.{Scenario, IsScenario}
use Rattle.world.specs.declared.event.Event.{Event}
use Rattle.world.specs.Chronicle.{chronicle_of}
use Rattle.world.specs.Lists.{IsComplete}
use Rattle.world.specs.World.{opening, run}
use Rattle.show_table.specs.Retold.{IsWhole}

-- States that the chronicle of a complete run has the letters of all rounds, so that it has a message table.
abbrev pub RunsAreWhole : Type 0
RunsAreWhole = (s : Scenario) (events : List Event) → IsScenario s → IsComplete s events →
    IsWhole (chronicle_of (run (opening s) events))
