use Rattle.std.proofs.Common.{◌≡◌, ◌+◌, ◌*◌, length, take}
use Rattle.std.specs.Prelude.{◌==◌, IfSome}
use Rattle.lies.specs.Limits.{AreCheap}
use Rattle.lies.specs.Plans.{items_of, meets, selections}
use Rattle.lies.proofs.Selecting.{best_of}
use Rattle.lies.proofs.selection.+selection.Given as goal

abbrev pub decreases-cheapest : goal.decreases-cheapest
decreases-cheapest g l = 2 * length l.off.now

abbrev pub decreases-cheapest_by : goal.decreases-cheapest_by
decreases-cheapest_by g l = 2 * length l.later.now + 1

abbrev pub invariant-cheapest_by-loop-choice : goal.invariant-cheapest_by-loop-choice
invariant-cheapest_by-loop-choice g l = record {
  kept : l.begun.items ≡ l.fn.begun.items;
  best : items_of l.best ≡ best_of (meets (g.C.Combine.combined l.rule) l.aims) l.fn.begun.items (selections l.choices l.later) (λ choice. choice.general == l.general) (take l.choice-index l.choices);
  cheap : IfSome l.best (λ p. AreCheap l.relays p.items);
}
