use Rattle.world.proofs.Verdicts.{proved_bound_suffices}
use Rattle.world.proofs.laws.bound_suffices.Goals as goal

pub returns : goal.returns
returns c = proved_bound_suffices
