use Rattle.std.proofs.Common.{◌≡◌, ◌-◌, ◌+◌, ℕ, ap, true, refl, arith}
use Rattle.std.proofs.Math.ListN.{set}
use Rattle.round.proofs.Prolonging.{front_with}
use Rattle.round.proofs.front.LabelPrefix.with.Goals as goal

pub returns : goal.returns
returns c = λ k w within few inside h off eb.
    let ew : c.saturating_sub-width.result ≡ c.args.generals - (c.args.self.now.size + 1) = let e = c.saturating_sub-width.ensures in let a = c.from-count.ensures in let b = c.from-size.ensures in omega arith in
    front_with c.args.generals k c.args.general c.args.below c.saturating_sub-width.result _ w c.args.self.now _ c.ranks_with.result h few inside within off eb ew refl c.requires.size
    (ap (λ (g : ℕ). set c.args.self.now.on g true) c.from.ensures) c.ranks_with.ensures.wide c.ranks_with.ensures.ranks
