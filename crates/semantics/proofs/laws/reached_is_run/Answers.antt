use Rattle.semantics.proofs.ReachedLaws.{reached_run}
use Rattle.semantics.proofs.laws.reached_is_run.Goals as goal

pub returns : goal.returns
returns c = reached_run
