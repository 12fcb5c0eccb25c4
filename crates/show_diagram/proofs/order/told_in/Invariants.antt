use Rattle.std.proofs.Common.{◌≡◌, take}
use Rattle.std.specs.Prelude.{filter}
use Rattle.show_diagram.specs.Lists.{is_in}
use Rattle.show_diagram.proofs.order.told_in.Given as goal

-- The messages of the round so far.
abbrev pub invariant-loop-telling : goal.invariant-loop-telling
invariant-loop-telling l = l.kept.items ≡ filter (is_in l.round) (take l.telling-index l.tellings)
