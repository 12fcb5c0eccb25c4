use Rattle.std.proofs.Common.{◌≡◌}
use Rattle.std.specs.List.{flat_map, range_with_len}
use Rattle.show_chains.specs.Strokes.{behind}
use Rattle.show_chains.proofs.strokes.strokes.Given as goal

-- The list has the strokes of the rounds so far.
abbrev pub invariant-loop-before : goal.invariant-loop-before
invariant-loop-before l = l.strokes.items ≡ flat_map (behind l.chronicle) (range_with_len 0 l.before)
