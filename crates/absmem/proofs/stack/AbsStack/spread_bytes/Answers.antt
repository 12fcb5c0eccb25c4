use Rattle.std.proofs.Common.{◌∙◌, ap, refl, sym, subst}
use Rattle.absmem.specs.Known.{Known}
use Rattle.absmem.specs.Describes.{Describes}
use Rattle.absmem.proofs.Keeping.{filed_left, described_spread}
use Rattle.absmem.specs.Stacks.{spread_bytes}
use Rattle.absmem.proofs.Whole.{spread_is}
use Rattle.absmem.proofs.stack.AbsStack.spread_bytes.Goals as goal

pub invariant_of-self : goal.invariant_of-self
invariant_of-self c = record {
  cells = c.self.invariant.cells;
  blocks = c.clear.ensures.size;
  filed = λ b lt. rw (c.clear.ensures.each b lt) (filed_left _ _ b _ (c.self.invariant.filed b lt));
}

pub returns-clause-holds : goal.returns-clause-holds
returns-clause-holds c =
    λ cells new at described long are low high.
    described_spread (record { bytes = c.self.inside.bytes; spills = c.self.inside.spills }) _ cells new c.args.place c.args.size at refl c.clear.ensures.each c.requires.within long are low high
    (subst (λ (known : Known). Describes known cells) (sym c.self.view_is) described)

pub returns-clause-exact : goal.returns-clause-exact
returns-clause-exact c =
    spread_is (record { bytes = c.self.inside.bytes; spills = c.self.inside.spills }) (record { bytes = c.self.inside.bytes; spills = c.clear.new.spills }) c.self.invariant.cells c.clear.ensures.size c.args.place c.args.size refl c.clear.ensures.each
    ∙ ap (spread_bytes c.args.place c.args.size) c.self.view_is
