-- The same cell at each index.
use Rattle.std.proofs.Common.{◌∙◌, sym, arith, refl}
use Rattle.semantics.specs.declared.value.Cell.TheVariants.{Empty}
use Rattle.mem.proofs.Alike.{same_lists}
use Rattle.mem.proofs.stack.Stack.same.Goals as goal

pub returns : goal.returns
returns c = (
  λ h. same_lists Empty c.args.self.now c.args.other.now (c.recall.ensures ∙ sym c.recall-2.ensures) (λ k less. c.loop-place.invariant k (omega arith)),
  λ h. refl,
)
