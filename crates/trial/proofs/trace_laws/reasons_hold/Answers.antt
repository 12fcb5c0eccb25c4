use Rattle.trial.proofs.ReasonLaws.{reasons_are}
use Rattle.trial.proofs.trace_laws.reasons_hold.Goals as goal

pub returns : goal.returns
returns c = reasons_are
