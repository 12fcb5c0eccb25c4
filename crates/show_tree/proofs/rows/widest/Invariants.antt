use Rattle.std.proofs.Common.{◌≡◌, ◌<◌, ◌^◌, drop, max}
use Rattle.show_tree.specs.Rows.{widest}
use Rattle.show_tree.proofs.rows.widest.Given as goal

-- The greatest width is that of the rows so far and the remaining ones, and no width is too large.
abbrev pub invariant-loop-node : goal.invariant-loop-node
invariant-loop-node l = record { width : max (widest (drop l.node-index l.nodes)) l.widest ≡ widest l.nodes; small : l.widest < 2 ^ 100 }
