use Rattle.trace.proofs.Naming.{proved_names_are_told}
use Rattle.trace.proofs.laws.names_are_told.Goals as goal

pub returns : goal.returns
returns c = proved_names_are_told
