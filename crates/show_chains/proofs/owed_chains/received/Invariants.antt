use Rattle.std.proofs.Common.{◌≡◌, map, take}
use Rattle.signed.specs.Entries.{received}
use Rattle.signed.specs.Sending.{dispatch_of}
use Rattle.show_chains.proofs.owed_chains.received.Given as goal

-- Those of the chains so far that the receiver received are kept.
abbrev pub invariant-loop-chain : goal.invariant-loop-chain
invariant-loop-chain l = l.came.items ≡ received l.receiver (map dispatch_of (take l.chain-index l.sending))
