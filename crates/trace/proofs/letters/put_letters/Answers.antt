use Rattle.trace.specs.Text.{letter_lines}
use Rattle.trace.proofs.RoundLemmas.{told_more, then_lines}
use Rattle.trace.proofs.letters.put_letters.Goals as goal

pub loop-letter-preserved : goal.loop-letter-preserved
loop-letter-preserved g c =
    then_lines _ _ _ (told_more letter_lines c.args.letters.now c.loop-letter.letter-index c.letter-item.result c.loop-letter-test.true c.letter-item.is) c.loop-letter.invariant c.put_letter.ensures
