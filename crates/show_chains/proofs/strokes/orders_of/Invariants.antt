use Rattle.std.proofs.Common.{◌≡◌, ◌++◌, [], drop}
use Rattle.signed.specs.Chains.{orders}
use Rattle.signed.specs.Accepted.{firsts}
use Rattle.show_chains.proofs.strokes.orders_of.Given as goal

-- The orders found so far and the new ones of the remaining chains are all orders.
abbrev pub invariant-loop-chain : goal.invariant-loop-chain
invariant-loop-chain l = l.found.items ++ orders (firsts l.found.items (drop l.chain-index l.chains)) ≡ orders (firsts [] l.chains)
