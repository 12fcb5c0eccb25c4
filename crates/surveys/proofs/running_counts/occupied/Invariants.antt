use Rattle.std.proofs.Common.{◌≡◌, take}
use Rattle.std.specs.Prelude.{filter}
use Rattle.surveys.specs.Groups.{is_occupied}
use Rattle.surveys.proofs.running_counts.occupied.Given as goal

abbrev pub invariant-loop-group : goal.invariant-loop-group
invariant-loop-group l = l.some.items ≡ filter is_occupied (take l.group-index l.groups)
