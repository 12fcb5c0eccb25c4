-- What the type of a world guarantees.
use Rattle.std.proofs.Common.{subst}
use Rattle.world.specs.World.{oral_kind, World}
use Rattle.world.specs.KindHeld.{IsReached}
use Rattle.world.proofs.Campaigns.{oral_campaigns}
use Rattle.world.proofs.plays.WorldPlayableWorld.campaign.Goals as goal

pub returns-clause-reached : goal.returns-clause-reached
returns-clause-reached c = subst (λ (w : World). IsReached oral_kind w) c.self.view_is c.self.invariant.0.reached

pub returns-clause-campaigns : goal.returns-clause-campaigns
returns-clause-campaigns c = oral_campaigns
