-- A round is removed from the end.
use Rattle.std.proofs.Common.{◌∙◌}
use Rattle.campaign_orders.proofs.Passing.{order_turned, order_passed}
use Rattle.campaign_orders.proofs.succession.next_order.Goals as goal

pub returns-in-Some-next_names : goal.returns-in-Some-next_names
returns-in-Some-next_names c =
    order_turned c.loop-names.order.items c.pop.new.self.items c.push.new.self.items c.in-Some.names c.in-Some-next_names.next
    c.in-Some.ensures.items c.in-Some-next_names.ensures c.in_ok-push.ensures.items ∙ c.loop-names.invariant

pub loop-names-preserved : goal.loop-names-preserved
loop-names-preserved c =
    order_passed c.loop-names.order.items c.pop.new.self.items c.in-Some.names c.in-Some.ensures.items c.in_default-next_names.ensures ∙ c.loop-names.invariant
