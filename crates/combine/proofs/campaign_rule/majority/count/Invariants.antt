use Rattle.std.proofs.Common.{◌≡◌, take}
use Rattle.std.specs.Prelude.{count_by, ◌==◌}
use Rattle.combine.proofs.campaign_rule.majority.count.Given as goal

abbrev pub invariant-loop-x : goal.invariant-loop-x
invariant-loop-x l = l.count ≡ count_by (λ x. x == l.order) (take l.x-index l.orders)
