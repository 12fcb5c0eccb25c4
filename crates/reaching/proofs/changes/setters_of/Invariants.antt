use Rattle.std.proofs.Common.{◌≡◌}
use Rattle.std.specs.Prelude.{slice_get}
use Rattle.reaching.specs.declared.subject.Subject.TheVariants.{Cell}
use Rattle.reaching.specs.Setters.{setters_over}
use Rattle.reaching.proofs.changes.setters_of.Given as goal

abbrev pub invariant-loop-unit : goal.invariant-loop-unit
invariant-loop-unit l = l.into.items ≡ setters_over l.program (slice_get l.states) (Cell l.cell) l.unit
