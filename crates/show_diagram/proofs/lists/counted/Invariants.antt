use Rattle.std.proofs.Common.{◌≡◌}
use Rattle.std.specs.Prelude.{count_by, take}
use Rattle.show_diagram.specs.declared.told_order.Telling.{Telling}
use Rattle.show_diagram.specs.Lists.{count_of, is_same}
use Rattle.show_diagram.proofs.lists.counted.Given as goal

abbrev pub invariant-loop-telling : goal.invariant-loop-telling
invariant-loop-telling l = (q : Telling) → count_of l.counts q ≡ count_by (is_same q) (take l.telling-index l.tellings)
