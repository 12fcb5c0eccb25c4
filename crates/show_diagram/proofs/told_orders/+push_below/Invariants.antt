use Rattle.std.proofs.Common.{◌≡◌, ◌-◌, ◌++◌, ◌∷◌}
use Rattle.std.specs.List.{flat_map}
use Rattle.label.specs.Labels.{others}
use Rattle.show_diagram.specs.Facts.{tellings_by}
use Rattle.show_diagram.proofs.told_orders.+push_below.Given as goal

abbrev pub decreases-push_below : goal.decreases-push_below
decreases-push_below g l = l.relays

-- The messages of the generals so far, and those for further extensions.
abbrev pub invariant-loop-other : goal.invariant-loop-other
invariant-loop-other g l =
    l.tellings.items ≡ l.fn.tellings.items ++ flat_map (tellings_by (g.H.Heard.seen l.table) (l.relays - 1) l.label l.general) (others l.other (l.general ∷ l.label))
