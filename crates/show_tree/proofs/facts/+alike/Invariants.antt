use Rattle.std.proofs.Common.{◌≡◌, ◌+◌, ◌*◌, ◌-◌, ◌∷◌}
use Rattle.std.specs.List.{list_all}
use Rattle.label.specs.Labels.{others}
use Rattle.show_tree.specs.Facts.{is_alike_by}
use Rattle.show_tree.proofs.facts.+alike.Given as goal

abbrev pub decreases-is_alike : goal.decreases-is_alike
decreases-is_alike g l = 2 * l.relays

abbrev pub decreases-is_alike_by : goal.decreases-is_alike_by
decreases-is_alike_by g l = 2 * l.relays + 1

-- Whether the extensions by the generals so far can be folded.
abbrev pub invariant-is_alike-loop-other : goal.invariant-is_alike-loop-other
invariant-is_alike-loop-other g l = l.is_so ≡ list_all (λ j. is_alike_by (g.H.Heard.seen l.table) l.traitors (l.relays - 1) l.label j l.general) (others l.other (l.general ∷ l.label))
