use Rattle.signed.specs.Sent.{sent_in}
use Rattle.trace.specs.SignedText.{letter_lines}
use Rattle.trace.proofs.RoundLemmas.{then_lines, told_more}
use Rattle.trace.proofs.signed_letters.put_letters.Goals as goal

pub loop-letter-preserved : goal.loop-letter-preserved
loop-letter-preserved g c =
    let d = c.args.chronicle.now in
    then_lines _ _ _ (told_more (letter_lines (sent_in d.scenario d.letters) c.args.round) c.args.letters.now c.loop-letter.letter-index c.letter-item.result c.loop-letter-test.true c.letter-item.is) c.loop-letter.invariant c.put_letter.ensures
