use Rattle.std.proofs.Common.{ℕ, sym, subst}
use Rattle.bits.specs.Known.{HasBits}
use Rattle.bits.proofs.Laws.{cut_holds, cut_apart}
use Rattle.bits.proofs.operations.low_word.Goals as goal

pub invariant_of-result : goal.invariant_of-result
invariant_of-result c = cut_apart c.a.inside.mask c.a.inside.value c.a.invariant

pub returns-clause-holds : goal.returns-clause-holds
returns-clause-holds c = λ x h. cut_holds c.a.inside.mask c.a.inside.value x (subst (λ (b : ℕ × ℕ). HasBits b x) (sym c.a.view_is) h)
