use Rattle.std.proofs.Common.{◌≡◌, filter}
use Rattle.label.specs.Labels.{generals}
use Rattle.round.specs.Scenario.{is_traitor}
use Rattle.show_table.proofs.explanation.traitors.Given as goal

-- The traitors among the generals so far.
abbrev pub invariant-loop-general : goal.invariant-loop-general
invariant-loop-general l = l.traitors.items ≡ filter (is_traitor l.scenario) (generals l.general)
