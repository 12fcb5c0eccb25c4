use Rattle.std.proofs.Common.{ℕ, sym, subst, arith, rules}
use Rattle.bits.specs.Known.{HasBits}
use Rattle.bits.proofs.Laws.{masked_same, masked_has}
use Rattle.bits.proofs.bits.Bits.contains.Goals as goal

pub returns-clause-means : goal.returns-clause-means
returns-clause-means c = (
  (λ t. subst (λ (b : ℕ × ℕ). HasBits b c.args.x) c.self.view_is (masked_has c.self.inside.mask c.self.inside.value c.args.x (omega arith) (search (rules, t)))),
  (λ h. search (rules, masked_same c.self.inside.mask c.self.inside.value c.args.x (subst (λ (b : ℕ × ℕ). HasBits b c.args.x) (sym c.self.view_is) h))),
)
