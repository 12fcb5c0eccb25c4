use Rattle.semantics.proofs.PlacesLaws.{ranges_kept}
use Rattle.semantics.proofs.laws.ranges_are_kept.Goals as goal

pub returns : goal.returns
returns c = ranges_kept
