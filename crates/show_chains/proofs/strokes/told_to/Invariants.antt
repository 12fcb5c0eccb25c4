use Rattle.std.proofs.Common.{◌≡◌}
use Rattle.std.specs.List.{flat_map, range_with_len}
use Rattle.show_chains.specs.Strokes.{between}
use Rattle.show_chains.proofs.strokes.told_to.Given as goal

-- The list has the strokes of the senders so far.
abbrev pub invariant-loop-general : goal.invariant-loop-general
invariant-loop-general l = l.list.items ≡ flat_map (between l.chronicle l.round l.receiver) (range_with_len 0 l.general)
