use Rattle.world.specs.World.{oral_kind}
use Rattle.world.proofs.Campaigns.{oral_campaigns}
use Rattle.campaign_orders.proofs.ScheduleLaws.{orders_are_schedules}
use Rattle.campaign_orders.proofs.laws.orders_are_schedules.Goals as goal

pub returns : goal.returns
returns c = orders_are_schedules oral_kind oral_campaigns
