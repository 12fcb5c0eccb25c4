use Rattle.explain.proofs.RefusalsTold.{refusals_told}
use Rattle.explain.proofs.laws.refusals_are_told.Goals as goal

pub returns : goal.returns
returns c = refusals_told
