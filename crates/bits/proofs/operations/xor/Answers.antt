use Rattle.std.proofs.Common.{arith}
use Rattle.bits.proofs.Laws.{less_apart, or_below, xor_below}
use Rattle.bits.proofs.operations.xor.Goals as goal

pub invariant_of-result : goal.invariant_of-result
invariant_of-result c = less_apart _ _ (xor_below c.a.inside.value c.b.inside.value (omega arith) (omega arith)) (or_below c.a.inside.mask c.b.inside.mask (omega arith) (omega arith))
