use Rattle.std.proofs.Common.{ℕ}
use Rattle.signed.specs.Accepted.{accepted}
use Rattle.signed.specs.Sending.{AreFirst, AreRows}
use Rattle.signed.specs.Sent.{delivered}
use Rattle.signed.proofs.acceptance.accepted.Given as goal

abbrev pub invariant-loop-round : goal.invariant-loop-round
invariant-loop-round l = (n : ℕ) → AreRows n l.sent → AreFirst l.orders.items (accepted n (delivered l.sent) l.round l.general)
