use Rattle.bounds.proofs.TightnessLaws.{proved_om_is_decision_rule}
use Rattle.bounds.proofs.laws.om_is_decision_rule.Goals as goal

pub returns : goal.returns
returns c = proved_om_is_decision_rule
