use Rattle.std.proofs.Common.{◌≡◌, false, take}
use Rattle.label.specs.Labels.{on}
use Rattle.signed.specs.Chains.{orders}
use Rattle.signed.specs.Sending.{lent}
use Rattle.signed.proofs.accepted_chains.bring.Given as goal

-- No chain so far has the order.
abbrev pub invariant-loop-chain : goal.invariant-loop-chain
invariant-loop-chain l = on (orders (lent (take l.chain-index l.chains))) l.order ≡ false
