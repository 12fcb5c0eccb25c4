use Rattle.semantics.proofs.RunLaws.{stays}
use Rattle.semantics.proofs.laws.runs_stay_over.Goals as goal

pub returns : goal.returns
returns c = stays
