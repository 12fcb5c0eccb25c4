use Rattle.std.proofs.Common.{◌≡◌}
use Rattle.signed.specs.Accepted.{came}
use Rattle.signed.specs.Gathered.{gathered}
use Rattle.signed.specs.Sending.{lent}
use Rattle.signed.specs.Sent.{delivered, sent_in}
use Rattle.signed.proofs.accepted_chains.add_round.Given as goal

-- The chains of the senders so far are considered.
abbrev pub invariant-loop-sender : goal.invariant-loop-sender
invariant-loop-sender l = lent l.chains.items ≡ gathered l.round l.general (lent l.initial.chains.items) (came l.sender (delivered (sent_in l.chronicle.scenario l.chronicle.letters)) l.round l.general)
