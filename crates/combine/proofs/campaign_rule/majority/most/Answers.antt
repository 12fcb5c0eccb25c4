use Rattle.std.proofs.Common.{sym, ◌∙◌}
use Rattle.combine.proofs.Most.{voted, unvoted}
use Rattle.combine.proofs.campaign_rule.majority.most.Goals as goal

pub returns-then-is_in_most : goal.returns-then-is_in_most
returns-then-is_in_most c = voted c.args.orders.now c.candidate-candidate.result (sym c.is_in_most.ensures ∙ c.if-is_in_most.true)

pub returns-else-is_in_most : goal.returns-else-is_in_most
returns-else-is_in_most c = unvoted c.args.orders.now c.candidate-candidate.result c.candidate-candidate.ensures (sym c.is_in_most.ensures ∙ c.if-is_in_most.false)
