use Rattle.std.proofs.Common.{◌-◌, length}
use Rattle.semantics.specs.Relay.{oral}
use Rattle.capi.specs.Runs.{host}
use Rattle.capi.proofs.Bare.{Serves}
use Rattle.capi.proofs.running.run_over.Given as goal

abbrev pub invariant-loop-request : goal.invariant-loop-request
invariant-loop-request l = Serves l.verified l.context (oral host) l.initial.words l.activation l.words

abbrev pub decreases-loop-request : goal.decreases-loop-request
decreases-loop-request l = length l.verified - l.activation.state.steps
