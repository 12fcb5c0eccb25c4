use Rattle.std.proofs.Common.{◌-◌, length}
use Rattle.codec.proofs.ProgramLemmas.{IsFilledTo}
use Rattle.codec.proofs.decoder.fill.Given as goal

abbrev pub invariant-loop-unit : goal.invariant-loop-unit
invariant-loop-unit l = IsFilledTo l.bytes l.places l.count l.unit (length l.fn.places)

abbrev pub decreases-loop-unit : goal.decreases-loop-unit
decreases-loop-unit l = length l.fn.places - l.unit
