use Rattle.std.proofs.Common.{◌≡◌, take}
use Rattle.signed.specs.Sending.{lent}
use Rattle.show_chains.proofs.unaccepted.copies.Given as goal

-- The chains so far are copied.
abbrev pub invariant-loop-chain : goal.invariant-loop-chain
invariant-loop-chain l = l.copies.items ≡ lent (take l.chain-index l.chains)
