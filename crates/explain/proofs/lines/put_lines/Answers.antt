use Rattle.std.proofs.Common.{◌≤◌, List, length, subst, sym}
use Rattle.insn.specs.declared.insn.Insn.{Insn}
use Rattle.insn.specs.Program.{slots_of}
use Rattle.explain.proofs.lines.put_lines.Goals as goal

pub put_units-requires-clause-few : goal.put_units-requires-clause-few
put_units-requires-clause-few c = subst (λ (is : List Insn). length (slots_of is) ≤ 4096) (sym c.instructions-insns.ensures.same) c.requires.few
