use Rattle.std.proofs.Common.{◌≡◌, ◌-◌, map}
use Rattle.label.specs.Labels.{others}
use Rattle.book.specs.Explained.{element}
use Rattle.book.proofs.plain_recursion.+decide.Given as goal

abbrev pub decreases-decide : goal.decreases-decide
decreases-decide l = l.relays

abbrev pub invariant-loop-other : goal.invariant-loop-other
invariant-loop-other l = l.orders.items ≡ map (element l.table (l.relays - 1) l.label l.general) (others l.other l.label)
