use Rattle.campaign_orders.proofs.Merging.{proved_lists}
use Rattle.campaign_orders.proofs.laws.alike_worlds_have_one_list.Goals as goal

pub returns : goal.returns
returns c = proved_lists
