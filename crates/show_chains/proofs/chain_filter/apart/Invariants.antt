use Rattle.std.proofs.Common.{◌≡◌, not, take}
use Rattle.std.specs.Prelude.{filter}
use Rattle.show_chains.specs.Owed.{is_among}
use Rattle.show_chains.proofs.chain_filter.apart.Given as goal

-- Those of the chains so far that `others` does not contain are kept.
abbrev pub invariant-loop-chain : goal.invariant-loop-chain
invariant-loop-chain l = l.kept.items ≡ filter (λ ch. not (is_among l.others ch)) (take l.chain-index l.chains)
