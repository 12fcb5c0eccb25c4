use Rattle.std.proofs.Common.{◌≡◌, not, take}
use Rattle.std.specs.Prelude.{filter}
use Rattle.label.specs.Labels.{on}
use Rattle.show_chains.proofs.chain_filter.unsigned.Given as goal

-- Those of the chains so far that the general has not signed are kept.
abbrev pub invariant-loop-chain : goal.invariant-loop-chain
invariant-loop-chain l = l.kept.items ≡ filter (λ ch. not (on ch.signers l.general)) (take l.chain-index l.chains)
