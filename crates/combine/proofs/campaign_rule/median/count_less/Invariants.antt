use Rattle.std.proofs.Common.{◌≡◌, take}
use Rattle.std.specs.Prelude.{count_by, nat_lt}
use Rattle.combine.proofs.campaign_rule.median.count_less.Given as goal

abbrev pub invariant-loop-x : goal.invariant-loop-x
invariant-loop-x l = l.count ≡ count_by (λ x. nat_lt x l.order) (take l.x-index l.orders)
