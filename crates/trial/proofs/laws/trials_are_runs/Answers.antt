use Rattle.trial.proofs.Histories.{trial_is_run}
use Rattle.trial.proofs.laws.trials_are_runs.Goals as goal

pub returns : goal.returns
returns c = trial_is_run
