use Rattle.std.proofs.Common.{◌≡◌, length, drop, Result}
use Rattle.toml.specs.View.{items_view}
use Rattle.round.specs.Scenario.{Scenario}
use Rattle.scenario.specs.declared.fault.ScenarioError.{ScenarioError}
use Rattle.scenario.specs.Reading.{Answers, scenario_of, unseated}
use Rattle.scenario.proofs.reader.seated.Given as goal

abbrev pub invariant-loop-index : goal.invariant-loop-index
invariant-loop-index l = record {
  many : length l.seats.items ≡ l.generals;
  so_far : (r : Result Scenario ScenarioError) → Answers (scenario_of l.fn.head) l.generals l.index l.seats.items (items_view (drop l.index l.values)) r
      → Answers (scenario_of l.fn.head) l.generals 0 (unseated l.fn.head) (items_view l.values) r;
}
