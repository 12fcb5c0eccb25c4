use Rattle.round.proofs.Ends.{same_end}
use Rattle.round.proofs.laws.runs_have_one_end.Goals as goal

pub returns : goal.returns
returns c = same_end
