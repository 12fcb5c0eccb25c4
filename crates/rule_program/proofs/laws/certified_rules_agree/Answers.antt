use Rattle.rule_program.proofs.RuleLaws.{proved_certified_rules_agree}
use Rattle.rule_program.proofs.laws.certified_rules_agree.Goals as goal

pub returns : goal.returns
returns c = proved_certified_rules_agree
