use Rattle.world.proofs.Replaying.{runs_are_accounted}
use Rattle.signed.specs.Kind.{signed_kind}
use Rattle.signed.proofs.Worlds.{signed_campaigns}
use Rattle.signed.proofs.laws.signed_runs_are_accounted.Goals as goal

pub returns : goal.returns
returns c = runs_are_accounted signed_kind signed_campaigns
