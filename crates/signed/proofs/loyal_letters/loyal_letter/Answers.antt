-- The letter has his context, his relay and his entries.
use Rattle.std.proofs.Common.{◌+◌, length, sym, subst, ◌∙◌, arith}
use Rattle.round.specs.Letters.{Letter}
use Rattle.round.specs.Runs.{IsLetter}
use Rattle.signed.proofs.Receipts.{sent_rows}
use Rattle.signed.proofs.Written.{letter_is, written_is}
use Rattle.signed.proofs.loyal_letters.loyal_letter.Goals as goal

pub context-requires-clause-rows : goal.context-requires-clause-rows
context-requires-clause-rows c = sent_rows c.args.scenario.now c.args.sent.now c.requires.sent

pub outbox-requires-clause-rows : goal.outbox-requires-clause-rows
outbox-requires-clause-rows c = sent_rows c.args.scenario.now c.args.sent.now c.requires.sent

pub invariant_of-result : goal.invariant_of-result
invariant_of-result c =
    let a = c.args in
    let s = a.scenario.now in
    subst (λ (l : Letter). IsLetter l)
    (sym (written_is s a.sent.now a.general c.from.result (length a.sent.now + 1) c.in_ok-context.context.items c.new.result c.new-2.result.items c.enter.new.outbox
    c.from.ensures (omega arith) c.in_ok-context.ensures c.new.ensures c.new-2.ensures.items
    (c.enter.ensures.relay ∙ c.in_ok-outbox.ensures.relay) (c.enter.ensures.rows ∙ c.in_ok-outbox.ensures.empty) c.enter.ensures.entries))
    (letter_is s a.sent.now a.general c.recall.ensures c.requires.sent c.requires.inside c.requires.left)
