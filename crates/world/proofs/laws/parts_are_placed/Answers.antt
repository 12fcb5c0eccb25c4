use Rattle.world.specs.World.{oral_kind}
use Rattle.world.proofs.Campaigns.{oral_campaigns}
use Rattle.world.proofs.Standing.{parts_are_placed}
use Rattle.world.proofs.laws.parts_are_placed.Goals as goal

pub returns : goal.returns
returns c = parts_are_placed oral_kind oral_campaigns
