use Rattle.std.proofs.Common.{◌≡◌, [], take}
use Rattle.show_diagram.specs.Lists.{teller}
use Rattle.show_diagram.specs.Order.{firsts, is_by_one, repeats}
use Rattle.show_diagram.proofs.order.lies_first.Given as goal

-- The first lies of their senders and the further lies, among the lies so far.
abbrev pub invariant-loop-lie : goal.invariant-loop-lie
invariant-loop-lie l =
    (l.rows.items ≡ firsts (is_by_one teller) [] (take l.lie-index l.lie-items)) × (l.others.items ≡ repeats (is_by_one teller) [] (take l.lie-index l.lie-items))
