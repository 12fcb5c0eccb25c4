use Rattle.std.proofs.Common.{◌≡◌}
use Rattle.show_chains.specs.Strokes.{numbered}
use Rattle.show_chains.proofs.order.numbered.Given as goal

-- The strokes so far have row numbers.
abbrev pub invariant-loop-stroke : goal.invariant-loop-stroke
invariant-loop-stroke l = l.rows.items ≡ numbered l.yielded 0
