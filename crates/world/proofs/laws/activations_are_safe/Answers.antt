use Rattle.world.specs.World.{oral_kind}
use Rattle.world.proofs.Campaigns.{oral_campaigns}
use Rattle.world.proofs.Untrapped.{activations_are_safe}
use Rattle.world.proofs.laws.activations_are_safe.Goals as goal

pub returns : goal.returns
returns c = activations_are_safe oral_kind oral_campaigns
