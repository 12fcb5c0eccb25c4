use Rattle.std.proofs.Common.{◌≡◌, ◌∙◌, sym, arith}
use Rattle.absmem.proofs.HoldingBits.{same_where_zero}
use Rattle.absmem.proofs.blocks.Blocks.assign.Goals as goal

pub returns-else-other-ne0 : goal.returns-else-other-ne0
returns-else-other-ne0 c =
    let none : c.self.inside.holding ≡ 0 = omega (arith, c.if-self-ne0.false) in
    let nor : c.other.inside.holding ≡ 0 = omega (arith, c.if-other-ne0.false) in
    sym c.self.view_is
    ∙ (same_where_zero c.self.inside.holding c.other.inside.holding c.self.inside.spills c.other.inside.spills c.self.invariant c.other.invariant none nor
    ∙ c.other.view_is)
