use Rattle.std.proofs.Common.{ℕ, sym, subst}
use Rattle.bits.specs.Known.{HasBits}
use Rattle.bits.proofs.Laws.{least_below}
use Rattle.bits.proofs.bits.Bits.least.Goals as goal

pub returns-clause-least : goal.returns-clause-least
returns-clause-least c = λ x h. least_below c.self.inside.mask c.self.inside.value x c.self.invariant (subst (λ (b : ℕ × ℕ). HasBits b x) (sym c.self.view_is) h)
