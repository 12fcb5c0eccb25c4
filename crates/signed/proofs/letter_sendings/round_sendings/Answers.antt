-- One more general's letter sends its chains.
use Rattle.std.proofs.Common.{◌<◌, length, ap, ◌∙◌, arith}
use Rattle.round.specs.Letters.{letter_of}
use Rattle.signed.specs.Sent.{sends}
use Rattle.signed.proofs.Places.{row_length}
use Rattle.signed.proofs.Reading.{signers_count, signer_at}
use Rattle.signed.proofs.Receipts.{row_more}
use Rattle.signed.proofs.letter_sendings.round_sendings.Goals as goal

pub bounds-signers-from : goal.bounds-signers-from
bounds-signers-from c =
    let s = c.args.scenario.now in
    let same = c.generals-general-end.ensures.same in
    let at = c.from-in-loop-general.ensures in
    let inside = c.loop-general-test.true in
    omega (arith, signers_count s.generals s.commander c.args.signers.now c.requires.signers)

pub letter_sending-requires-clause-own : goal.letter_sending-requires-clause-own
letter_sending-requires-clause-own c =
    let s = c.args.scenario.now in
    let same = c.generals-general-end.ensures.same in
    let inside = c.loop-general-test.true in
    let in_range : c.loop-general.general < s.generals = omega arith in
    signer_at s.generals s.commander c.loop-general.general c.from-in-loop-general.result c.args.signers.now c.index-signers-from.result c.requires.signers c.from-in-loop-general.ensures in_range c.index-signers-from.is

pub loop-general-preserved : goal.loop-general-preserved
loop-general-preserved c =
    let a = c.args in
    row_more (λ g. sends a.scenario.now a.sent.now g (letter_of a.letters.now g)) c.loop-general.general c.loop-general.sendings.items c.in_ok-letter_sending.field-0 c.push.new.self.items
    c.in_ok-push.ensures.items c.loop-general.invariant c.in_ok-letter_sending.ensures

pub invariant_of-result : goal.invariant_of-result
invariant_of-result c =
    let a = c.args in
    let e = ap length c.loop-general.invariant ∙ row_length (λ g. sends a.scenario.now a.sent.now g (letter_of a.letters.now g)) c.loop-general.general in
    let few = c.generals.ensures.whole.few in
    let same = c.generals-general-end.ensures.same in
    let end = c.loop-general.auto.general-end in
    omega arith
