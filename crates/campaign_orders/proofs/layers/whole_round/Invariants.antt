use Rattle.campaign_orders.proofs.Spreading.{IsUnderWay}
use Rattle.campaign_orders.proofs.layers.whole_round.Given as goal

abbrev pub invariant-loop-made : goal.invariant-loop-made
invariant-loop-made l = IsUnderWay l.scenario l.most l.made l.initial.layer.items l.layer.items l.done
