use Rattle.bounds.proofs.TwoOrderLaws.{proved_two_order_rules_agree}
use Rattle.bounds.proofs.laws.two_order_rules_agree.Goals as goal

pub returns : goal.returns
returns c = proved_two_order_rules_agree
