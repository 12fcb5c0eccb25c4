use Rattle.std.proofs.Common.{◌≡◌, vec_len}
use Rattle.world.specs.Playing.{lists_in}
use Rattle.campaign_orders.specs.Succession.{next_order}
use Rattle.campaign_orders.proofs.succession.next_order.Given as goal

abbrev pub invariant-loop-names : goal.invariant-loop-names
invariant-loop-names l = next_order (lists_in l.order.items) ≡ next_order (lists_in l.fn.order.items)

abbrev pub decreases-loop-names : goal.decreases-loop-names
decreases-loop-names l = vec_len l.order
