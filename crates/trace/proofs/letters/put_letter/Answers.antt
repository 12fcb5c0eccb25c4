use Rattle.std.proofs.Common.{ap}
use Rattle.trace.proofs.WrittenLemmas.{then_wrote, wrote-same}
use Rattle.trace.proofs.RoundLemmas.{letter_parts}
use Rattle.trace.proofs.letters.put_letter.Goals as goal

pub returns : goal.returns
returns g c =
    wrote-same _ _ (letter_parts c.args.letter.now c.general_of.result c.steps_of.result c.outbox_of.result.now.rows c.general_of.ensures c.steps_of.ensures (ap (λ o. o.rows) c.outbox_of.ensures)) (then_wrote c.put_author.ensures c.put_rows.ensures)
