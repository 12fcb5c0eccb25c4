use Rattle.trace.specs.Text.{letter_lines}
use Rattle.trace.proofs.WrittenLemmas.{then_wrote, wrote-same}
use Rattle.trace.proofs.RoundLemmas.{round_parts}
use Rattle.trace.proofs.letters.put_one.Goals as goal

pub returns : goal.returns
returns g c =
    wrote-same _ _ (round_parts letter_lines c.args.round c.args.accesses.now c.args.letters.now) (then_wrote (then_wrote c.put_round.ensures c.put_accesses.ensures) c.put_letters.ensures)
