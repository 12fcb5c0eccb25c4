use Rattle.trial.proofs.Histories.{trial_ends}
use Rattle.trial.proofs.laws.trials_end.Goals as goal

pub returns : goal.returns
returns c = trial_ends
