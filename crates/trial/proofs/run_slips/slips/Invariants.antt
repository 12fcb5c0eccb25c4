use Rattle.std.proofs.Common.{◌-◌, length}
use Rattle.semantics.specs.Relay.{oral}
use Rattle.trial.specs.Slips.{by_board, slips_on}
use Rattle.trial.proofs.SlipLemmas.{IsSlipped}
use Rattle.trial.proofs.run_slips.slips.Given as goal

abbrev pub invariant-loop-activation : goal.invariant-loop-activation
invariant-loop-activation l =
    IsSlipped by_board l.verified l.context (oral l.shape) (length l.verified) (slips_on l.fn.words l.verified l.context (oral l.shape)) l.activation l.board.words l.calls.items

abbrev pub decreases-loop-activation : goal.decreases-loop-activation
decreases-loop-activation l = length l.verified - l.activation.state.steps
