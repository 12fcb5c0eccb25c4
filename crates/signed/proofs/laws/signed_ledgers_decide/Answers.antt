use Rattle.world.proofs.Deciding.{ledgers_decide}
use Rattle.signed.specs.Kind.{signed_kind}
use Rattle.signed.proofs.Worlds.{signed_campaigns}
use Rattle.signed.proofs.laws.signed_ledgers_decide.Goals as goal

pub returns : goal.returns
returns c = ledgers_decide signed_kind signed_campaigns
