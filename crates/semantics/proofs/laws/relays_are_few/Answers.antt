use Rattle.semantics.proofs.PlacesLaws.{relays_few}
use Rattle.semantics.proofs.laws.relays_are_few.Goals as goal

pub returns : goal.returns
returns c shape a = relays_few shape a
