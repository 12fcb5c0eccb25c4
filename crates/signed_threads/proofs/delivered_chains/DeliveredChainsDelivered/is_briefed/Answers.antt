-- The context, the relay and a loyal general's outbox decide whether a letter has its briefing.
use Rattle.std.proofs.Common.{◌∙◌, take}
use Rattle.signed_threads.proofs.Briefings.{briefed, has_briefing}
use Rattle.signed_threads.proofs.delivered_chains.DeliveredChainsDelivered.is_briefed.Goals as goal

pub returns : goal.returns
returns c before told =
    let s = c.args.scenario.now in
    let front = take c.args.rounds before in
    let of = c.in_ok-context.ensures in
    let context = c.as_slice.ensures.value ∙ of.context before told in (
      λ y. briefed s front c.args.general c.args.letter.now c.as_slice.result.now c.in_ok-context.begun context (of.relay before told) of.rows (of.entries before told) (c.has_outset-has.ensures.0 y),
      λ h. c.has_outset-has.ensures.1 (has_briefing s front c.args.general c.args.letter.now c.as_slice.result.now c.in_ok-context.begun context (of.relay before told) of.rows (of.entries before told) h),
    )
