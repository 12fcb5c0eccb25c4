use Rattle.std.proofs.Common.{◌≡◌}
use Rattle.threads.proofs.camp.Crew.close.Given as goal

abbrev pub invariant-loop-inbox : goal.invariant-loop-inbox
invariant-loop-inbox g l = l.shut.inboxes ≡ l.inbox-index
