use Rattle.bounds.proofs.Induction.{proved_bound_is_tolerable}
use Rattle.bounds.proofs.laws.bound_is_tolerable.Goals as goal

pub returns : goal.returns
returns c = proved_bound_is_tolerable
