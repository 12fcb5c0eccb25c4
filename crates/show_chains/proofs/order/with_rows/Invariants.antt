use Rattle.std.proofs.Common.{◌≡◌}
use Rattle.show_chains.specs.Strokes.{with_rows}
use Rattle.show_chains.proofs.order.with_rows.Given as goal

-- Those of the strokes so far that are drawn are kept.
abbrev pub invariant-loop-stroke : goal.invariant-loop-stroke
invariant-loop-stroke l = l.drawn.items ≡ with_rows l.yielded
