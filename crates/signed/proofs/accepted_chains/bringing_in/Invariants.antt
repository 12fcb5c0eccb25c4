use Rattle.std.proofs.Common.{◌≡◌}
use Rattle.signed.specs.Explained.{bringing}
use Rattle.signed.specs.Sending.{lent}
use Rattle.signed.specs.Sent.{delivered, sent_in}
use Rattle.signed.proofs.accepted_chains.bringing_in.Given as goal

-- The chains of the rounds so far are considered.
abbrev pub invariant-loop-round : goal.invariant-loop-round
invariant-loop-round l = lent l.chains.items ≡ bringing l.chronicle.scenario.generals (delivered (sent_in l.chronicle.scenario l.chronicle.letters)) l.round l.general
