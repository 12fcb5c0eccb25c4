-- The context of an oral letter decides what it must send.
use Rattle.std.proofs.Common.{◌≡◌, suc, length, take, ap, ◌∙◌, arith}
use Rattle.std.proofs.lemmas.List.{length-take-le}
use Rattle.threads.proofs.Briefings.{briefed}
use Rattle.threads.proofs.received.ReceivedDelivered.is_briefed.Goals as goal

pub returns : goal.returns
returns c before told =
    let s = c.args.scenario.now in
    let front = take c.args.rounds before in
    let long : length front ≡ c.args.rounds = length-take-le c.args.rounds before (let a = c.requires.passed in let b = told.rounds in omega arith) in
    let own = c.requires.own in
    let has = c.in_ok-has.ensures.context before told in (
      λ y. briefed s front c.args.general c.args.letter.now c.recall-2.ensures c.requires.general (let left = c.requires.left in omega arith) c.recall.ensures
          own.general (own.round_is ∙ ap suc (let e : c.args.rounds ≡ length front = omega arith in e)) own.program (c.in_ok-has.ensures.words before told) (has.0 y),
      λ h. has.1 h.context,
    )
