use Rattle.std.proofs.Common.{◌≡◌, ◌++◌}
use Rattle.std.specs.List.{flat_map, range_with_len}
use Rattle.show_chains.specs.Strokes.{list_to}
use Rattle.show_chains.proofs.strokes.push_round.Given as goal

-- The strokes to the receivers so far are appended.
abbrev pub invariant-loop-receiver : goal.invariant-loop-receiver
invariant-loop-receiver l = l.strokes.items ≡ l.fn.strokes.items ++ flat_map (list_to l.chronicle l.round) (range_with_len 0 l.receiver)
