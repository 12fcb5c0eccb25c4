use Rattle.world.specs.World.{oral_kind}
use Rattle.world.proofs.Campaigns.{oral_campaigns}
use Rattle.campaign_orders.proofs.Deciding.{orders_decide}
use Rattle.campaign_orders.proofs.laws.orders_decide.Goals as goal

pub returns : goal.returns
returns c = orders_decide oral_kind oral_campaigns
