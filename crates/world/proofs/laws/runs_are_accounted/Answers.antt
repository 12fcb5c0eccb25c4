use Rattle.world.specs.World.{oral_kind}
use Rattle.world.proofs.Campaigns.{oral_campaigns}
use Rattle.world.proofs.Replaying.{runs_are_accounted}
use Rattle.world.proofs.laws.runs_are_accounted.Goals as goal

pub returns : goal.returns
returns c = runs_are_accounted oral_kind oral_campaigns
