use Rattle.std.proofs.Common.{◌≡◌, not, take}
use Rattle.std.specs.Prelude.{filter}
use Rattle.show_diagram.specs.Lists.{is_lie}
use Rattle.show_diagram.proofs.order.honest.Given as goal

-- The honest messages so far.
abbrev pub invariant-loop-telling : goal.invariant-loop-telling
invariant-loop-telling l = l.kept.items ≡ filter (λ x. not (is_lie x)) (take l.telling-index l.list)
