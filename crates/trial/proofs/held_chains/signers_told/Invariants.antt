use Rattle.std.proofs.Common.{◌≡◌, ◌+◌, ◌*◌, ◌%◌, ◌^◌, map}
use Rattle.std.specs.List.{range_with_len}
use Rattle.mem.specs.ContextLayout.{number_told}
use Rattle.trial.proofs.held_chains.signers_told.Given as goal

-- The signers of the chains so far.
abbrev pub invariant-loop-index : goal.invariant-loop-index
invariant-loop-index l = l.signers.items ≡ map (λ i. number_told l.context (9 + 2 * i) % 2 ^ 16) (range_with_len 0 l.index)
