use Rattle.std.proofs.Common.{◌≡◌, ◌++◌, take}
use Rattle.std.specs.List.{flat_map}
use Rattle.std.specs.String.{string_bytes}
use Rattle.show_chains.specs.Words.{further_words}
use Rattle.show_chains.proofs.words.put_further.Given as goal

-- The chains so far are written.
abbrev pub invariant-loop-chain : goal.invariant-loop-chain
invariant-loop-chain l = string_bytes l.out ≡ string_bytes l.fn.out ++ flat_map further_words (take l.chain-index l.chains)
