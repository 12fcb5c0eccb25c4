use Rattle.bounds.proofs.Induction.{proved_tolerance}
use Rattle.bounds.proofs.laws.tolerance.Goals as goal

pub returns : goal.returns
returns c = proved_tolerance
