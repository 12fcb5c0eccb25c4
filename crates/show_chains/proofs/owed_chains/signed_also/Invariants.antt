use Rattle.std.proofs.Common.{◌≡◌, map, take}
use Rattle.signed.specs.Chains.{signed_also}
use Rattle.signed.specs.Sending.{lent}
use Rattle.show_chains.proofs.owed_chains.signed_also.Given as goal

-- The chains so far have the general's signature added.
abbrev pub invariant-loop-chain : goal.invariant-loop-chain
invariant-loop-chain l = l.signed.items ≡ map (λ ch. signed_also ch l.general) (lent (take l.chain-index l.chains))
