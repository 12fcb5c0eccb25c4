use Rattle.std.proofs.Common.{◌≡◌}
use Rattle.std.specs.Prelude.{slice_get}
use Rattle.reaching.specs.Setters.{ways_from}
use Rattle.reaching.proofs.flow.ways_from.Given as goal

abbrev pub invariant-loop-unit : goal.invariant-loop-unit
invariant-loop-unit l = l.ways.items ≡ ways_from l.program (slice_get l.states) l.unit
