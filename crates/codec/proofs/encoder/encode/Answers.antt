use Rattle.std.proofs.Common.{◌≡◌, ap, subst, ◌∙◌, arith}
use Rattle.std.proofs.lemmas.List.{take_all}
use Rattle.std.specs.List.{AllByRecursion}
use Rattle.insn.specs.Insn.{IsInsn}
use Rattle.codec.specs.Spelling.{program_bytes}
use Rattle.codec.proofs.ProgramLemmas.{spells_program}
use Rattle.codec.proofs.encoder.encode.Goals as goal

pub returns-clause-spells : goal.returns-clause-spells
returns-clause-spells c =
    let whole : c.loop-insn.bytes.items ≡ program_bytes c.args.program.now =
    c.loop-insn.invariant ∙ ap program_bytes (take_all _ _ (omega arith) ∙ c.instructions-insn-items.ensures.same) in
    spells_program c.loop-insn.bytes.items c.args.program.now c.units.result whole c.units.ensures.units c.units.ensures.some c.units.ensures.bound
    (subst (AllByRecursion IsInsn) c.instructions-insn-items.ensures.same c.instructions-insn-items.ensures.well)
