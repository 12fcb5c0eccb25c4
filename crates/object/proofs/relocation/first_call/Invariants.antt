-- Nothing was found so far.
use Rattle.std.proofs.Common.{◌≡◌}
use Rattle.std.specs.Prelude.{None}
use Rattle.object.specs.First.{first_some}
use Rattle.object.specs.Relocation.{call_fault}
use Rattle.object.proofs.relocation.first_call.Given as goal

abbrev pub invariant-loop-unit : goal.invariant-loop-unit
invariant-loop-unit l = first_some (call_fault l.code) l.unit ≡ None
