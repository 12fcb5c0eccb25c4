use Rattle.std.proofs.Common.{◌≡◌}
use Rattle.verify.specs.Structure.{first_fault, checks_from}
use Rattle.verify.proofs.StructureLemmas.{rest_at}
use Rattle.verify.proofs.structure.first_jump_fault.Given as goal

abbrev pub invariant-loop-index : goal.invariant-loop-index
invariant-loop-index l = first_fault (checks_from l.program 0 l.program) ≡ first_fault (rest_at l.program 0 l.program l.index)
