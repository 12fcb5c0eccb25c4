use Rattle.world.specs.World.{oral_kind}
use Rattle.world.proofs.Campaigns.{oral_campaigns}
use Rattle.campaign_orders.proofs.Bounded.{orders_are_whole}
use Rattle.campaign_orders.proofs.laws.orders_are_whole.Goals as goal

pub returns : goal.returns
returns c = orders_are_whole oral_kind oral_campaigns
