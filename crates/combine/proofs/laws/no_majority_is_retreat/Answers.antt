use Rattle.combine.proofs.Most.{retreat}
use Rattle.combine.proofs.laws.no_majority_is_retreat.Goals as goal

pub returns : goal.returns
returns c = retreat
