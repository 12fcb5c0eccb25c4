use Rattle.std.proofs.Common.{◌-◌, length}
use Rattle.trial.proofs.Entering.{IsServed}
use Rattle.trial.proofs.program_run.run_on.Given as goal

abbrev pub invariant-loop-request : goal.invariant-loop-request
invariant-loop-request l = IsServed l.verified l.context l.shape l.initial.board l.activation l.board

abbrev pub decreases-loop-request : goal.decreases-loop-request
decreases-loop-request l = length l.verified - l.activation.state.steps
