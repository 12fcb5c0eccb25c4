use Rattle.std.proofs.Common.{◌∙◌, ap, sym, subst}
use Rattle.absmem.specs.Known.{Known}
use Rattle.absmem.specs.Describes.{Describes}
use Rattle.absmem.proofs.Keeping.{filed_left, described_put}
use Rattle.absmem.specs.Stacks.{put_bytes}
use Rattle.absmem.proofs.Whole.{put_is}
use Rattle.absmem.proofs.stack.AbsStack.put_bytes.Goals as goal

pub invariant_of-self : goal.invariant_of-self
invariant_of-self c = record {
  cells = c.set.ensures.size;
  blocks = c.clear.ensures.size;
  filed = λ b lt. rw (c.clear.ensures.each b lt) (filed_left _ _ b _ (c.self.invariant.filed b lt));
}

pub returns-clause-holds : goal.returns-clause-holds
returns-clause-holds c =
    λ cells new described long are size.
    described_put (record { bytes = c.self.inside.bytes; spills = c.self.inside.spills }) _ cells new c.args.place c.args.size c.set.ensures.window c.clear.ensures.each c.requires.within long are size
    (subst (λ (known : Known). Describes known cells) (sym c.self.view_is) described)

pub returns-clause-exact : goal.returns-clause-exact
returns-clause-exact c =
    put_is (record { bytes = c.self.inside.bytes; spills = c.self.inside.spills }) (record { bytes = c.set.new.self; spills = c.clear.new.spills }) c.set.ensures.size c.clear.ensures.size c.args.place c.args.size c.set.ensures.window c.clear.ensures.each
    ∙ ap (put_bytes c.args.place c.args.size) c.self.view_is
