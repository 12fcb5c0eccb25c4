-- Where the edges of a jump end, from where those of its instruction end.
use Rattle.std.proofs.Common.{◌≡◌, ℕ, sym, subst}
use Rattle.std.specs.Prelude.{ℤ}
use Rattle.word.specs.declared.Width.{Width}
use Rattle.word.specs.declared.Condition.{Condition}
use Rattle.insn.specs.declared.insn.Insn.{Insn}
use Rattle.insn.specs.declared.insn.Insn.TheVariants.{Jump, LongJump, Branch}
use Rattle.insn.specs.declared.insn.Operand.{Operand}
use Rattle.verify.specs.Kept.{EdgesInside}

pub jump_inside : (i : Insn) (distance x : ℤ) (unit end : ℕ) → i ≡ Jump distance → x ≡ distance → EdgesInside i unit end → EdgesInside (LongJump x) unit end
jump_inside i distance x unit end e same inside =
    subst (λ (y : ℤ). EdgesInside (LongJump y) unit end) (sym same) (subst (λ (j : Insn). EdgesInside j unit end) e inside)

pub long_inside : (i : Insn) (distance x : ℤ) (unit end : ℕ) → i ≡ LongJump distance → x ≡ distance → EdgesInside i unit end → EdgesInside (LongJump x) unit end
long_inside i distance x unit end e same inside =
    subst (λ (y : ℤ). EdgesInside (LongJump y) unit end) (sym same) (subst (λ (j : Insn). EdgesInside j unit end) e inside)

pub branch_inside : (i : Insn) (w : Width) (c : Condition) (dst : ℕ) (operand : Operand) (distance x : ℤ) (unit end : ℕ) → i ≡ Branch w c dst operand distance → x ≡ distance →
    EdgesInside i unit end → EdgesInside (Branch w c dst operand x) unit end
branch_inside i w c dst operand distance x unit end e same inside =
    subst (λ (y : ℤ). EdgesInside (Branch w c dst operand y) unit end) (sym same) (subst (λ (j : Insn). EdgesInside j unit end) e inside)
