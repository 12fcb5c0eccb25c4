use Rattle.world.proofs.Legal.{ledgers_are_legal}
use Rattle.signed.specs.Kind.{signed_kind}
use Rattle.signed.proofs.laws.signed_ledgers_are_legal.Goals as goal

pub returns : goal.returns
returns c = ledgers_are_legal signed_kind
