use Rattle.std.proofs.Common.{◌≡◌, ◌-◌, ◌++◌, ◌∷◌, [], map}
use Rattle.std.specs.List.{flat_map}
use Rattle.std.specs.String.{string_bytes}
use Rattle.label.specs.Labels.{others}
use Rattle.book.specs.Explained.{element, list_lines, part}
use Rattle.book.proofs.lists.+push_lists.Given as goal

abbrev pub decreases-push_lists : goal.decreases-push_lists
decreases-push_lists g l = l.relays

abbrev pub invariant-loop-other : goal.invariant-loop-other
invariant-loop-other g l = record {
  orders : l.orders.items ≡ map (element (g.H.Heard.seen l.table) (l.relays - 1) l.label l.general) (others l.other l.label);
  lines : string_bytes l.lines ≡ string_bytes l.fn.lines ++ flat_map (λ j. list_lines (g.H.Heard.seen l.table) (l.relays - 1) (l.label ++ j ∷ []) l.general) (others l.other (l.general ∷ l.label));
  parts : string_bytes l.parts ≡ flat_map (part (g.H.Heard.seen l.table) (l.relays - 1) l.label l.general) (others l.other (l.general ∷ l.label));
}
