use Rattle.std.proofs.Common.{◌-◌}
use Rattle.round.specs.Runs.{AreFitting}
use Rattle.semantics.specs.Outbox.{empty_outbox}
use Rattle.semantics.specs.State.{entry}
use Rattle.trial.specs.Slips.{by_replies, slips_from}
use Rattle.trial.proofs.SlipLemmas.{IsSlipped}
use Rattle.trial.proofs.letter_replay.replayed_slips.Given as goal

abbrev pub invariant-loop-rest : goal.invariant-loop-rest
invariant-loop-rest l =
    IsSlipped by_replies l.verified l.context l.fn.outbox.relay l.steps (slips_from by_replies l.verified l.context l.fn.outbox.relay l.steps l.transcript (entry (empty_outbox l.fn.outbox.relay))) l.activation l.rest l.calls.items
    × AreFitting l.rest

abbrev pub decreases-loop-rest : goal.decreases-loop-rest
decreases-loop-rest l = l.steps - l.activation.state.steps
