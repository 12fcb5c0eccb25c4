use Rattle.rule_program.proofs.MajorityLemmas.{agreed_majority, divided_majority, middle_majority}
use Rattle.rule_program.proofs.lost_majority.majority_of.Goals as goal

pub returns-in-Agreed-clause-some : goal.returns-in-Agreed-clause-some
returns-in-Agreed-clause-some c = agreed_majority c.args.orders.now c.in-Agreed.order c.in-Agreed.ensures.value

pub returns-in-Divided-clause-none : goal.returns-in-Divided-clause-none
returns-in-Divided-clause-none c = λ v most. divided_majority c.args.orders.now c.in-Divided.field-0 v c.in-Divided.ensures.value most

pub returns-in-Middle-clause-none : goal.returns-in-Middle-clause-none
returns-in-Middle-clause-none c = λ v most. middle_majority c.args.orders.now c.in-Middle.field-0 c.in-Middle.ensures.value
