use Rattle.signed.specs.Sent.{sent_in}
use Rattle.trace.proofs.SignedLines.{letter_parts}
use Rattle.trace.proofs.WrittenLemmas.{then_wrote, wrote-same}
use Rattle.trace.proofs.signed_letters.put_letter.Goals as goal

pub returns : goal.returns
returns g c =
    let d = c.args.chronicle.now in
    wrote-same _ _ (letter_parts (sent_in d.scenario d.letters) c.args.round c.args.letter.now c.general_of.result c.steps_of.result c.sent_by.result.now c.general_of.ensures c.steps_of.ensures c.sent_by.ensures)
    (then_wrote c.put_author.ensures c.put_chains.ensures)
