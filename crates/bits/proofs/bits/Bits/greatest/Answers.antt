use Rattle.std.proofs.Common.{ℕ, sym, subst}
use Rattle.bits.specs.Known.{HasBits}
use Rattle.bits.proofs.Laws.{greatest_above}
use Rattle.bits.proofs.bits.Bits.greatest.Goals as goal

pub returns-clause-greatest : goal.returns-clause-greatest
returns-clause-greatest c = λ x h. greatest_above c.self.inside.mask c.self.inside.value x (subst (λ (b : ℕ × ℕ). HasBits b x) (sym c.self.view_is) h)
