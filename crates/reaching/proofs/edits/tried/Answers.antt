use Rattle.std.proofs.Common.{List, subst, sym}
use Rattle.std.specs.List.{AllByRecursion}
use Rattle.insn.specs.declared.insn.Insn.{Insn}
use Rattle.insn.specs.Insn.{IsWell}
use Rattle.reaching.proofs.MendLemmas.{mended_well}
use Rattle.reaching.proofs.edits.tried.Goals as goal

pub new-requires-clause-well : goal.new-requires-clause-well
new-requires-clause-well c =
    subst (λ (is : List Insn). AllByRecursion IsWell is) (sym c.in_ok-insns.ensures.mended) (mended_well c.args.edit.now c.args.place 0 c.instructions.result.now c.instructions.ensures.well)
