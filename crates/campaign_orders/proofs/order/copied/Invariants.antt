use Rattle.std.proofs.Common.{◌≡◌, take}
use Rattle.world.specs.Playing.{lists_in}
use Rattle.campaign_orders.proofs.order.copied.Given as goal

abbrev pub invariant-loop-names : goal.invariant-loop-names
invariant-loop-names l = lists_in l.copy.items ≡ lists_in (take l.names-index l.order)
