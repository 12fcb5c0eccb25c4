-- One more round is listed.
use Rattle.std.proofs.Common.{◌+◌, arith}
use Rattle.campaign_orders.proofs.Passing.{order_more}
use Rattle.campaign_orders.proofs.order.order_in.Goals as goal

pub loop-before-preserved : goal.loop-before-preserved
loop-before-preserved c =
    order_more c.loop-before.order.items c.push.new.self.items c.in_ok-names_of.field-0 c.args.accesses.now c.loop-before.before (c.from.result + 1)
    (omega arith) c.loop-before.invariant c.in_ok-names_of.ensures c.in_ok-push.ensures.items
