use Rattle.std.proofs.Common.{◌≡◌}
use Rattle.std.specs.Prelude.{slice_get}
use Rattle.reaching.specs.Columns.{stacks_behind}
use Rattle.reaching.proofs.changes.stacks_behind.Given as goal

abbrev pub invariant-loop-unit : goal.invariant-loop-unit
invariant-loop-unit l = l.stacks.items ≡ stacks_behind l.program (slice_get l.states) l.unit
