use Rattle.std.proofs.Common.{◌≡◌, take}
use Rattle.show_chains.specs.Strokes.{bare}
use Rattle.show_chains.proofs.strokes.bare.Given as goal

-- The strokes so far are copied without their chains.
abbrev pub invariant-loop-stroke : goal.invariant-loop-stroke
invariant-loop-stroke l = l.plain.items ≡ bare (take l.stroke-index l.strokes)
