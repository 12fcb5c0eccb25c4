use Rattle.world.specs.World.{oral_kind}
use Rattle.world.proofs.Legal.{ledgers_are_legal}
use Rattle.world.proofs.laws.ledgers_are_legal.Goals as goal

pub returns : goal.returns
returns c = ledgers_are_legal oral_kind
