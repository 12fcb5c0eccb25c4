use Rattle.std.proofs.Common.{refl, ◌∙◌, ap, sym, arith}
use Rattle.std.proofs.lemmas.Nat.Bits.{bit_at-zero}
use Rattle.absmem.proofs.Keeping.{free_at}
use Rattle.absmem.proofs.HoldingBits.{bit_for}
use Rattle.absmem.proofs.blocks.Blocks.free.Goals as goal

pub invariant_of-result : goal.invariant_of-result
invariant_of-result c = record {
  small = omega arith;
  blocks = refl;
  each = λ b lt. bit_at-zero b ∙ sym (ap bit_for (free_at b));
}
