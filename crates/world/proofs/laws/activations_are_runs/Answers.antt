use Rattle.world.specs.World.{oral_kind}
use Rattle.world.proofs.Campaigns.{oral_campaigns, oral_relays}
use Rattle.world.proofs.Standing.{activations_are_runs}
use Rattle.world.proofs.laws.activations_are_runs.Goals as goal

pub returns : goal.returns
returns c = activations_are_runs oral_kind oral_campaigns oral_relays
