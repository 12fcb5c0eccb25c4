use Rattle.std.proofs.Common.{◌≡◌, take}
use Rattle.std.specs.Prelude.{filter}
use Rattle.show_diagram.specs.Lists.{has_row}
use Rattle.show_diagram.proofs.overflow.with_rows.Given as goal

-- The drawn strokes so far.
abbrev pub invariant-loop-stroke : goal.invariant-loop-stroke
invariant-loop-stroke l = l.drawn.items ≡ filter has_row (take l.stroke-index l.strokes)
