use Rattle.world.proofs.Lasting.{lists_are_complete}
use Rattle.signed.specs.Kind.{signed_kind}
use Rattle.signed.proofs.Worlds.{signed_campaigns}
use Rattle.signed.proofs.laws.signed_lists_are_complete.Goals as goal

pub returns : goal.returns
returns c = lists_are_complete signed_kind signed_campaigns
