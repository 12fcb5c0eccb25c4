use Rattle.semantics.proofs.PlacesLaws.{few_places}
use Rattle.semantics.proofs.laws.few_places_are_set.Goals as goal

pub returns : goal.returns
returns c = few_places
