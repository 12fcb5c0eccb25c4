use Rattle.bounds.proofs.ExactnessLaws.{proved_tolerance_is_exact}
use Rattle.bounds.proofs.laws.tolerance_is_exact.Goals as goal

pub returns : goal.returns
returns c = proved_tolerance_is_exact
