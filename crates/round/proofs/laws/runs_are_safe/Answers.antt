use Rattle.round.proofs.Ends.{proved_runs_are_safe}
use Rattle.round.proofs.laws.runs_are_safe.Goals as goal

pub returns : goal.returns
returns c = proved_runs_are_safe
