use Rattle.std.proofs.Common.{◌≡◌, ◌-◌, suc, length, arith, sym, subst, ◌∙◌, List, get_or}
use Rattle.insn.specs.declared.insn.Insn.{Insn}
use Rattle.verify.proofs.StructureLemmas.{last_is_exit, last_is_other}
use Rattle.verify.proofs.structure.last_fault.Goals as goal

pub returns-then-is_the_exit : goal.returns-then-is_the_exit
returns-then-is_the_exit c =
    let e : suc (c.len-last.result - 1) ≡ length c.args.program.now = omega arith in
    last_is_exit c.args.program.now (c.len-last.result - 1) c.index-instructions-last.result e
    (subst (λ (is : List Insn). c.index-instructions-last.result ≡ get_or is (c.len-last.result - 1) c.index-instructions-last.result) c.instructions.ensures.same c.index-instructions-last.is)
    (sym c.is_the_exit.ensures ∙ c.if-is_the_exit.true)

pub returns : goal.returns
returns c =
    let e : suc (c.len-last.result - 1) ≡ length c.args.program.now = omega arith in
    last_is_other c.args.program.now (c.len-last.result - 1) c.unit_of.result c.index-instructions-last.result e
    (subst (λ (is : List Insn). c.index-instructions-last.result ≡ get_or is (c.len-last.result - 1) c.index-instructions-last.result) c.instructions.ensures.same c.index-instructions-last.is)
    (sym c.is_the_exit.ensures ∙ c.if-is_the_exit.false) c.unit_of.ensures
