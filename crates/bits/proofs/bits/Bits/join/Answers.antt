use Rattle.std.proofs.Common.{ℕ, sym, subst, arith}
use Rattle.bits.specs.Known.{HasBits}
use Rattle.bits.proofs.Laws.{joined_left, joined_right, less_apart, joined_lt}
use Rattle.bits.proofs.bits.Bits.join.Goals as goal

pub invariant_of-result : goal.invariant_of-result
invariant_of-result c = less_apart c.self.inside.value _ (omega arith) (joined_lt c.self.inside.mask c.self.inside.value c.other.inside.mask c.other.inside.value (omega arith) (omega arith) (omega arith) (omega arith))

pub returns-clause-left : goal.returns-clause-left
returns-clause-left c = λ x h.
    joined_left c.self.inside.mask c.self.inside.value c.other.inside.mask c.other.inside.value x (omega arith) (omega arith) (omega arith) (omega arith) (subst (λ (b : ℕ × ℕ). HasBits b x) (sym c.self.view_is) h)

pub returns-clause-right : goal.returns-clause-right
returns-clause-right c = λ x h.
    joined_right c.self.inside.mask c.self.inside.value c.other.inside.mask c.other.inside.value x (omega arith) (omega arith) (omega arith) (omega arith) (subst (λ (b : ℕ × ℕ). HasBits b x) (sym c.other.view_is) h)
