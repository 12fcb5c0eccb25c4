use Rattle.bounds.proofs.DivisionLaws.{proved_division_breaks}
use Rattle.bounds.proofs.laws.division_breaks.Goals as goal

pub returns : goal.returns
returns c = proved_division_breaks
