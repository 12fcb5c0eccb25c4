use Rattle.std.proofs.Common.{◌≡◌}
use Rattle.std.specs.Prelude.{filter}
use Rattle.std.specs.List.{range_with_len}
use Rattle.round.specs.Scenario.{is_traitor}
use Rattle.surveys.proofs.accounting.listed_traitors.Given as goal

abbrev pub invariant-loop-general : goal.invariant-loop-general
invariant-loop-general l = l.traitors.items ≡ filter (is_traitor l.scenario) (range_with_len 0 l.general)
