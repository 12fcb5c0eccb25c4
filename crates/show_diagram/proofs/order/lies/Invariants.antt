use Rattle.std.proofs.Common.{◌≡◌, take}
use Rattle.std.specs.Prelude.{filter}
use Rattle.show_diagram.specs.Lists.{is_lie}
use Rattle.show_diagram.proofs.order.lies.Given as goal

-- The lies so far.
abbrev pub invariant-loop-telling : goal.invariant-loop-telling
invariant-loop-telling l = l.kept.items ≡ filter is_lie (take l.telling-index l.list)
