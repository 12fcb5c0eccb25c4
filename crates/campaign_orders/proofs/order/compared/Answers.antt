-- Orders are compared round by round.
use Rattle.std.proofs.Common.{◌∙◌}
use Rattle.campaign_orders.proofs.Lesser.{lists_cmp}
use Rattle.campaign_orders.proofs.order.compared.Goals as goal

pub returns : goal.returns
returns c = c.cmp.ensures ∙ lists_cmp c.args.order.now c.args.other.now
