use Rattle.std.proofs.Common.{◌≡◌, List, get_or, subst, arith}
use Rattle.insn.specs.declared.insn.Insn.{Insn}
use Rattle.verify.proofs.StructureLemmas.{fault_at_unit, start_inside}
use Rattle.verify.proofs.structure.fault_of.Goals as goal

pub jump_fault-requires-clause-inside : goal.jump_fault-requires-clause-inside
jump_fault-requires-clause-inside c =
    omega (arith, start_inside c.args.program.now 0 c.args.index c.unit_of-unit.result c.requires.inside c.unit_of-unit.ensures, c.requires.end)

pub returns : goal.returns
returns c =
    fault_at_unit c.args.program.now c.args.index c.unit_of-unit.result c.index-instructions-index.result _ c.requires.inside
    (subst (λ (is : List Insn). c.index-instructions-index.result ≡ get_or is c.args.index c.index-instructions-index.result) c.instructions.ensures.same c.index-instructions-index.is)
    c.unit_of-unit.ensures c.jump_fault.ensures
