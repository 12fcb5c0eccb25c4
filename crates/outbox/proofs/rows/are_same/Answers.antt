-- The orders at each index are the same.
use Rattle.std.proofs.Common.{arith, refl, None}
use Rattle.outbox.proofs.Sameness.{same_lists}
use Rattle.outbox.proofs.rows.are_same.Goals as goal

pub returns : goal.returns
returns c = (
  λ h. same_lists None c.args.told.now c.args.others.now c.if-told-others.false (λ k less. c.loop-number.invariant k (omega arith)),
  λ h. refl,
)
