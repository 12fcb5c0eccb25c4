use Rattle.std.proofs.Common.{◌≡◌, take}
use Rattle.std.specs.Prelude.{filter}
use Rattle.show_chains.specs.Owed.{is_among}
use Rattle.show_chains.proofs.chain_filter.among.Given as goal

-- Those of the chains so far that `others` contains are kept.
abbrev pub invariant-loop-chain : goal.invariant-loop-chain
invariant-loop-chain l = l.kept.items ≡ filter (is_among l.others) (take l.chain-index l.chains)
