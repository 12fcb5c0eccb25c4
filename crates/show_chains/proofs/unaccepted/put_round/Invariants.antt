use Rattle.std.proofs.Common.{◌≡◌, ◌+◌, ◌++◌}
use Rattle.std.specs.List.{flat_map, range_with_len}
use Rattle.std.specs.String.{string_bytes}
use Rattle.show_chains.specs.Unaccepted.{lines_from}
use Rattle.show_chains.proofs.unaccepted.put_round.Given as goal

-- The lines for the senders so far are written.
abbrev pub invariant-loop-sender : goal.invariant-loop-sender
invariant-loop-sender l =
    string_bytes l.out ≡ string_bytes l.fn.out ++ flat_map (lines_from l.chronicle l.brought (l.before + 1) l.general) (range_with_len 0 l.sender)
