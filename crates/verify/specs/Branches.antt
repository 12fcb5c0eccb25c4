-- Defines the conditional jump that makes a comparison (own).
use Rattle.std.specs.Prelude.{ℤ}
use Rattle.insn.specs.declared.insn.Insn.{Insn}
use Rattle.insn.specs.declared.insn.Insn.TheVariants.{Branch}
use Rattle.verify.specs.declared.comparison.Comparison.{Comparison}

-- Returns the conditional jump with this comparison and this distance.
abbrev pub branch_of : Comparison → ℤ → Insn
branch_of c distance = Branch c.width c.condition c.dst c.operand distance
