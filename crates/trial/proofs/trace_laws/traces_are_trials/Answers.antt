use Rattle.trial.proofs.TraceLaws.{trace_is_trial}
use Rattle.trial.proofs.trace_laws.traces_are_trials.Goals as goal

pub returns : goal.returns
returns c = trace_is_trial
