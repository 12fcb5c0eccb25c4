use Rattle.world.proofs.Replaying.{accounts_are_runs}
use Rattle.signed.specs.Kind.{signed_kind}
use Rattle.signed.proofs.Worlds.{signed_campaigns}
use Rattle.signed.proofs.laws.signed_accounts_are_runs.Goals as goal

pub returns : goal.returns
returns c = accounts_are_runs signed_kind signed_campaigns
