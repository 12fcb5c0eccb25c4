use Rattle.std.proofs.Common.{◌≡◌, ◌+◌, ◌*◌, map}
use Rattle.label.specs.Labels.{others}
use Rattle.book.specs.Explained.{element}
use Rattle.show_tree.proofs.facts.+lists.Given as goal

abbrev pub decreases-held : goal.decreases-held
decreases-held g l = 2 * l.relays

abbrev pub decreases-orders : goal.decreases-orders
decreases-orders g l = 2 * l.relays + 1

-- The orders of the generals so far.
abbrev pub invariant-orders-loop-other : goal.invariant-orders-loop-other
invariant-orders-loop-other g l = l.orders.items ≡ map (element (g.H.Heard.seen l.table) l.relays l.label l.general) (others l.other l.label)
