use Rattle.std.proofs.Common.{◌≡◌, ◌∷◌, [], take, flat_map}
use Rattle.signed.specs.Contexts.{signer_bits}
use Rattle.signed.specs.Sending.{lent}
use Rattle.signed.proofs.held_chains.Held.numbers.Given as goal

abbrev pub invariant-loop-chain : goal.invariant-loop-chain
invariant-loop-chain l = l.numbers.items ≡ flat_map (λ ch. ch.order ∷ signer_bits ch ∷ []) (lent (take l.chain-index l.chain-items))
