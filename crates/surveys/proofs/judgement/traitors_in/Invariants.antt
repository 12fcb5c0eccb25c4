use Rattle.std.proofs.Common.{◌≡◌, ◌≤◌}
use Rattle.std.specs.Prelude.{count_by}
use Rattle.std.specs.List.{range_with_len}
use Rattle.round.specs.Scenario.{is_traitor}
use Rattle.surveys.proofs.judgement.traitors_in.Given as goal

abbrev pub invariant-loop-general : goal.invariant-loop-general
invariant-loop-general l = (l.count ≡ count_by (is_traitor l.scenario) (range_with_len 0 l.general)) × (l.count ≤ l.general)
