use Rattle.std.proofs.Common.{ℕ, ap, false, true, refl, replicate}
use Rattle.std.proofs.Math.ListN.{set}
use Rattle.round.proofs.Prolonging.{front_alone}
use Rattle.round.proofs.front.LabelPrefix.of.Goals as goal

pub returns : goal.returns
returns c = λ n inside few. front_alone n c.args.commander _ _ inside few (ap (λ (k : ℕ). set (replicate 13 false) k true) c.from.ensures) refl
