use Rattle.std.proofs.Common.{◌≡◌, map, take}
use Rattle.signed.specs.Entries.{received}
use Rattle.signed.specs.Gathered.{gathered}
use Rattle.signed.specs.Sending.{dispatch_of, lent}
use Rattle.signed.proofs.accepted_chains.add_sending.Given as goal

-- The chains so far are considered.
abbrev pub invariant-loop-chain : goal.invariant-loop-chain
invariant-loop-chain l = lent l.chains.items ≡ gathered l.round l.general (lent l.initial.chains.items) (received l.general (map dispatch_of (take l.chain-index l.sending)))
