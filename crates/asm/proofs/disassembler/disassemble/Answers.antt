use Rattle.std.proofs.Common.{rules, ◌≡◌, subst}
use Rattle.std.specs.List.{AllByRecursion}
use Rattle.std.specs.String.{string_bytes}
use Rattle.insn.specs.Insn.{IsInsn}
use Rattle.asm.specs.Printing.{text_of}
use Rattle.asm.proofs.RoundLemmas.{says_again}
use Rattle.asm.proofs.disassembler.disassemble.Goals as goal

pub returns-clause-again : goal.returns-clause-again
returns-clause-again c =
    let e : string_bytes c.put_lines.new.out ≡ text_of c.args.program.now = search rules in
    let well : AllByRecursion IsInsn c.args.program.now = subst (AllByRecursion IsInsn) c.instructions.ensures.same c.instructions.ensures.well in
    says_again c.args.program.now (string_bytes c.put_lines.new.out) c.units.result e c.units.ensures.units c.units.ensures.some c.units.ensures.bound well
