use Rattle.bounds.proofs.TightnessLaws.{proved_bound_is_tight}
use Rattle.bounds.proofs.laws.bound_is_tight.Goals as goal

pub returns : goal.returns
returns c = proved_bound_is_tight
