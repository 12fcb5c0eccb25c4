use Rattle.std.proofs.Common.{◌≡◌}
use Rattle.std.specs.List.{filter, range_with_len}
use Rattle.bounds.specs.Stories.{is_traitor_in}
use Rattle.cli_tasks.proofs.refutations.traitors_of.Given as goal

abbrev pub invariant-loop-general : goal.invariant-loop-general
invariant-loop-general l = l.traitors.items ≡ filter (is_traitor_in l.story l.commander) (range_with_len 0 l.general)
