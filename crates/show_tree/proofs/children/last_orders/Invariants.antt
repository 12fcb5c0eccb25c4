use Rattle.std.proofs.Common.{◌≡◌, ◌∷◌, length, map}
use Rattle.label.specs.Labels.{others}
use Rattle.book.specs.Explained.{element}
use Rattle.show_tree.proofs.children.last_orders.Given as goal

-- The orders of the generals so far, and how many of them are from others than the lieutenant.
abbrev pub invariant-loop-other : goal.invariant-loop-other
invariant-loop-other g l =
    (l.orders.items ≡ map (element (g.H.Heard.seen l.table) 0 l.label l.general) (others l.other l.label))
    × (l.next ≡ length (others l.other (l.general ∷ l.label)))
