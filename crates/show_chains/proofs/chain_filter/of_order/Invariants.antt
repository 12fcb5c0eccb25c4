use Rattle.std.proofs.Common.{◌≡◌, take}
use Rattle.std.specs.Prelude.{◌==◌, filter}
use Rattle.show_chains.proofs.chain_filter.of_order.Given as goal

-- Those of the chains so far that have the order are kept.
abbrev pub invariant-loop-chain : goal.invariant-loop-chain
invariant-loop-chain l = l.kept.items ≡ filter (λ ch. ch.order == l.order) (take l.chain-index l.chains)
