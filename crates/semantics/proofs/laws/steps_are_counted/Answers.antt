use Rattle.semantics.proofs.StepLaws.{step_counts}
use Rattle.semantics.proofs.laws.steps_are_counted.Goals as goal

pub returns : goal.returns
returns c = step_counts
