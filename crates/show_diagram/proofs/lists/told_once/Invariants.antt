use Rattle.std.proofs.Common.{◌≡◌, [], take}
use Rattle.std.specs.HashSet.{contains}
use Rattle.std.specs.List.{list_any}
use Rattle.show_diagram.specs.declared.told_order.Telling.{Telling}
use Rattle.show_diagram.specs.Lists.{is_same}
use Rattle.show_diagram.specs.Order.{firsts}
use Rattle.show_diagram.proofs.lists.told_once.Given as goal

-- The messages seen so far, and each of them once.
abbrev pub invariant-loop-telling : goal.invariant-loop-telling
invariant-loop-telling l =
    ((q : Telling) → contains is_same l.seen q ≡ list_any (is_same q) (take l.telling-index l.tellings))
    × (l.things.items ≡ firsts is_same [] (take l.telling-index l.tellings))
