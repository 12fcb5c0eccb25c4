use Rattle.std.proofs.Common.{◌≡◌, ◌++◌, map, take}
use Rattle.show_chains.specs.Strokes.{made}
use Rattle.show_chains.proofs.strokes.push_grouped.Given as goal

-- The strokes for the orders so far are appended.
abbrev pub invariant-loop-order : goal.invariant-loop-order
invariant-loop-order l = l.list.items ≡ l.fn.list.items ++ map (made l.way l.chains) (take l.order-index l.order-items)
