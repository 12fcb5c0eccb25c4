use Rattle.campaign_orders.proofs.Spreading.{IsSpread}
use Rattle.campaign_orders.proofs.layers.expand.Given as goal

abbrev pub invariant-loop-general : goal.invariant-loop-general
invariant-loop-general l = IsSpread l.scenario l.fn.state l.general l.initial.next l.next l.asked
