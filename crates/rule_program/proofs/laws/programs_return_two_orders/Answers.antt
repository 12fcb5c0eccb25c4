use Rattle.rule_program.proofs.RuleLaws.{proved_programs_return_two_orders}
use Rattle.rule_program.proofs.laws.programs_return_two_orders.Goals as goal

pub returns : goal.returns
returns c = proved_programs_return_two_orders
