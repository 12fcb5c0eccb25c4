use Rattle.std.proofs.Common.{◌∙◌, ap₂}
use Rattle.std.specs.Prelude.{◌&&◌}
use Rattle.absmem.proofs.Keeping.{filed_joined}
use Rattle.absmem.specs.Known.{byte_at, spill_at, joined_spill}
use Rattle.absmem.specs.Stacks.{joined_stack}
use Rattle.absmem.proofs.Whole.{stack_is}
use Rattle.absmem.proofs.stack.AbsStack.join.Goals as goal

pub invariant_of-self : goal.invariant_of-self
invariant_of-self c = record {
  cells = c.intersect.ensures.size;
  blocks = c.join.ensures.size;
  filed = λ b lt. rw (c.join.ensures.each b lt) (filed_joined b _ _ (c.self.invariant.filed b lt));
}

pub returns-clause-exact : goal.returns-clause-exact
returns-clause-exact c =
    stack_is (record { bytes = c.intersect.new.self; spills = c.join.new.spills })
    (λ k. byte_at c.self.inside.bytes k && byte_at c.other.inside.bytes k) (λ b. joined_spill (spill_at c.self.inside.spills b) (spill_at c.other.inside.spills b))
    c.intersect.ensures.size c.join.ensures.size (λ k lt. c.intersect.ensures.both k) c.join.ensures.each
    ∙ ap₂ joined_stack c.self.view_is c.other.view_is
