use Rattle.std.proofs.Common.{◌-◌, List}
use Rattle.insn.specs.declared.insn.Insn.{Insn}
use Rattle.codec.proofs.ProgramLemmas.{IsReadTo}
use Rattle.codec.proofs.decoder.first_fault_of.Given as goal

abbrev pub invariant-loop-unit : goal.invariant-loop-unit
invariant-loop-unit l = (is : List Insn) × IsReadTo l.bytes is l.unit l.units

abbrev pub decreases-loop-unit : goal.decreases-loop-unit
decreases-loop-unit l = l.units - l.unit
