use Rattle.world.specs.World.{oral_kind}
use Rattle.world.proofs.Campaigns.{oral_campaigns}
use Rattle.campaign_orders.proofs.Listed.{orders_are_listed}
use Rattle.campaign_orders.proofs.laws.orders_are_listed.Goals as goal

pub returns : goal.returns
returns c = orders_are_listed oral_kind oral_campaigns
