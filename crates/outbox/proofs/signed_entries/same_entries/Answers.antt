-- The entries at each index are the same.
use Rattle.std.proofs.Common.{arith, refl}
use Rattle.semantics.specs.declared.entry.Entry.TheVariants.{Sign}
use Rattle.outbox.proofs.Sameness.{same_lists}
use Rattle.outbox.proofs.signed_entries.same_entries.Goals as goal

pub returns : goal.returns
returns c = (
  λ h. same_lists (Sign 0 0) c.args.entries.now c.args.others.now c.if-entries-others.false (λ k less. c.loop-place.invariant k (omega arith)),
  λ h. refl,
)
