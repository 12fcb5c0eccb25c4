use Rattle.std.proofs.Common.{◌≡◌, map, take}
use Rattle.signed.specs.Contexts.{signer_bits}
use Rattle.signed.specs.Sending.{lent}
use Rattle.signed.proofs.held_chains.Held.signers.Given as goal

abbrev pub invariant-loop-chain : goal.invariant-loop-chain
invariant-loop-chain l = l.signers.items ≡ map signer_bits (lent (take l.chain-index l.chain-items))
