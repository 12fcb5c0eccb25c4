use Rattle.std.proofs.Common.{◌≡◌, ◌++◌}
use Rattle.std.specs.List.{flat_map, range_with_len}
use Rattle.std.specs.String.{string_bytes}
use Rattle.signed.specs.Explained.{chains_of}
use Rattle.show_chains.specs.Unaccepted.{lines_in}
use Rattle.show_chains.proofs.unaccepted.put_unaccepted.Given as goal

-- The lines of the rounds so far are written.
abbrev pub invariant-loop-before : goal.invariant-loop-before
invariant-loop-before l =
    string_bytes l.out ≡ string_bytes l.fn.out ++ flat_map (lines_in l.chronicle (chains_of l.chronicle l.general) l.general) (range_with_len 0 l.before)
