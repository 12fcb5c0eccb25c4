use Rattle.std.proofs.Common.{◌≡◌, ◌++◌}
use Rattle.surveys.specs.Running.{groups_added}
use Rattle.surveys.proofs.running_counts.groups_added.Given as goal

abbrev pub invariant-loop-group : goal.invariant-loop-group
invariant-loop-group l = l.added.items ++ groups_added l.group-iterator.a.rest.now l.group-iterator.b.rest.now ≡ groups_added l.groups l.further
