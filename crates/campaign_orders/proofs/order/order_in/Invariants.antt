use Rattle.std.proofs.Common.{◌≡◌}
use Rattle.world.specs.KindLists.{names_in}
use Rattle.world.specs.Playing.{lists_in}
use Rattle.campaign_orders.proofs.order.order_in.Given as goal

abbrev pub invariant-loop-before : goal.invariant-loop-before
invariant-loop-before l = lists_in l.order.items ≡ names_in 1 l.accesses l.before
