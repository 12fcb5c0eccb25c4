use Rattle.std.proofs.Common.{◌≡◌, ◌+◌, ◌-◌, ◌*◌, ◌++◌, ◌∷◌}
use Rattle.std.specs.List.{flat_map}
use Rattle.std.specs.String.{string_bytes}
use Rattle.label.specs.Labels.{others}
use Rattle.show_page.specs.Trees.{item_by}
use Rattle.show_page.proofs.nested_lists.+items.Given as goal

abbrev pub decreases-put_item : goal.decreases-put_item
decreases-put_item g l = 2 * l.relays + 1

abbrev pub decreases-put_items : goal.decreases-put_items
decreases-put_items g l = 2 * l.relays

-- The items for the generals so far were appended.
abbrev pub invariant-put_items-loop-other : goal.invariant-put_items-loop-other
invariant-put_items-loop-other g l =
    string_bytes l.out ≡ string_bytes l.fn.out ++ flat_map (item_by (g.H.Heard.seen l.table) l.traitors l.view (l.relays - 1) l.label l.general) (others l.other (l.general ∷ l.label))
