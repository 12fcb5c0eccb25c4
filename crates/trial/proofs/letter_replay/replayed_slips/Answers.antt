use Rattle.std.proofs.Common.{◌<◌, ◌≤◌, List, length, arith}
use Rattle.semantics.specs.Outbox.{empty_outbox}
use Rattle.semantics.specs.State.{entry}
use Rattle.trial.specs.Slips.{by_replies, slips_from}
use Rattle.trial.proofs.SlipLemmas.{slipped_asked, slipped_cut, slipped_end, slipped_over, slipped_went}
use Rattle.trial.proofs.letter_replay.replayed_slips.Goals as goal

pub loop-rest-preserved-in-Onward : goal.loop-rest-preserved-in-Onward
loop-rest-preserved-in-Onward c =
    let program = c.args.verified.now in
    let relay = c.args.outbox.relay in
    let under = c.loop-rest-test.true in
    let at = c.steps.ensures in
    let few : c.loop-rest.activation.state.steps < c.args.steps = omega (arith, under, at) in (
      slipped_went by_replies program c.args.context.now relay c.args.steps (slips_from by_replies program c.args.context.now relay c.args.steps c.args.transcript.now (entry (empty_outbox relay))) c.loop-rest.activation
          c.step_noted.new.activation c.loop-rest.rest.now c.loop-rest.calls.items c.step_noted.new.calls.items few c.loop-rest.invariant.0 (rw c.in-Onward.is at c.in_ok-step_noted.ensures.noted)
          c.in_ok-step_noted.ensures.relay,
      c.loop-rest.invariant.1,
    )

pub loop-rest-preserved : goal.loop-rest-preserved
loop-rest-preserved c =
    let program = c.args.verified.now in
    let relay = c.args.outbox.relay in
    let under = c.loop-rest-test.true in
    let at = c.steps.ensures in
    let few : c.loop-rest.activation.state.steps < c.args.steps = omega (arith, under, at) in
    let asked = rw c.in-Asked.is at c.in_ok-step_noted.ensures.noted in
    let some = c.in-Some.ensures.some in (
      slipped_asked by_replies program c.args.context.now relay c.args.steps (slips_from by_replies program c.args.context.now relay c.args.steps c.args.transcript.now (entry (empty_outbox relay))) c.loop-rest.activation
          c.step_noted.new.activation c.answered.new.activation c.loop-rest.rest.now c.in-Some.further.now c.in-Asked.request some.answer c.loop-rest.calls.items c.step_noted.new.calls.items few c.loop-rest.invariant.0
          asked c.in_ok-step_noted.ensures.relay some.first c.in-Some.ensures.relay some.state (c.in-Some.ensures.of_run program c.args.context.now asked.of_run),
      c.in-Some.ensures.fitting,
    )

pub returns-in_default : goal.returns-in_default
returns-in_default c =
    let program = c.args.verified.now in
    let relay = c.args.outbox.relay in
    let under = c.loop-rest-test.true in
    let at = c.steps.ensures in
    let few : c.loop-rest.activation.state.steps < c.args.steps = omega (arith, under, at) in
    slipped_cut by_replies program c.args.context.now relay c.args.steps (slips_from by_replies program c.args.context.now relay c.args.steps c.args.transcript.now (entry (empty_outbox relay))) c.loop-rest.activation
    c.step_noted.new.activation c.loop-rest.rest.now c.in-Asked.request c.loop-rest.calls.items c.step_noted.new.calls.items few c.loop-rest.invariant.0 (rw c.in-Asked.is at c.in_ok-step_noted.ensures.noted)
    c.in_default.ensures.none

pub returns-in-Ended : goal.returns-in-Ended
returns-in-Ended c =
    let program = c.args.verified.now in
    let relay = c.args.outbox.relay in
    let under = c.loop-rest-test.true in
    let at = c.steps.ensures in
    let few : c.loop-rest.activation.state.steps < c.args.steps = omega (arith, under, at) in
    slipped_end by_replies program c.args.context.now relay c.args.steps (slips_from by_replies program c.args.context.now relay c.args.steps c.args.transcript.now (entry (empty_outbox relay))) c.loop-rest.activation
    c.loop-rest.rest.now c.loop-rest.calls.items c.step_noted.new.calls.items few c.loop-rest.invariant.0 (rw c.in-Ended.is at c.in_ok-step_noted.ensures.noted)

pub returns : goal.returns
returns c =
    let program = c.args.verified.now in
    let relay = c.args.outbox.relay in
    let past = c.loop-rest-test.false in
    let at = c.steps.ensures in
    let over : c.args.steps ≤ c.loop-rest.activation.state.steps = omega (arith, past, at) in
    slipped_over by_replies program c.args.context.now relay c.args.steps (slips_from by_replies program c.args.context.now relay c.args.steps c.args.transcript.now (entry (empty_outbox relay))) c.loop-rest.activation
    c.loop-rest.rest.now c.loop-rest.calls.items over c.loop-rest.invariant.0
