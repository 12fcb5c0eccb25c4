use Rattle.std.proofs.Common.{◌≡◌, ℕ, List, get_or, subst}
use Rattle.insn.specs.declared.insn.Insn.{Insn}
use Rattle.verify.proofs.StructureLemmas.{no_fault}
use Rattle.verify.proofs.structure.has_fault.Goals as goal

pub returns-then-not-is_jump : goal.returns-then-not-is_jump
returns-then-not-is_jump c =
    no_fault c.args.program.now c.args.index c.index-instructions-index.result c.requires.inside
    (subst (λ (is : List Insn). c.index-instructions-index.result ≡ get_or is c.args.index c.index-instructions-index.result) c.instructions.ensures.same c.index-instructions-index.is)
    (λ (unit : ℕ). c.is_jump.ensures c.if-not-is_jump.true c.args.program.now unit)
