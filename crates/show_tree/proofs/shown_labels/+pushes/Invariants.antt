use Rattle.std.proofs.Common.{◌≡◌, ◌+◌, ◌-◌, ◌*◌, ◌++◌, ◌∷◌}
use Rattle.std.specs.List.{flat_map}
use Rattle.label.specs.Labels.{others}
use Rattle.show_tree.specs.Shown.{nodes_by}
use Rattle.show_tree.proofs.shown_labels.+pushes.Given as goal

abbrev pub decreases-push_with : goal.decreases-push_with
decreases-push_with g l = 2 * l.relays + 1

abbrev pub decreases-push_below : goal.decreases-push_below
decreases-push_below g l = 2 * l.relays

-- The shown labels by the generals so far.
abbrev pub invariant-push_below-loop-other : goal.invariant-push_below-loop-other
invariant-push_below-loop-other g l =
    l.nodes.items ≡ l.fn.nodes.items ++ flat_map (λ j. nodes_by (g.H.Heard.seen l.table) l.traitors l.view (l.relays - 1) l.label j l.general) (others l.other (l.general ∷ l.label))
