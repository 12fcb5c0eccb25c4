use Rattle.std.proofs.Common.{List, ap, map}
use Rattle.std.specs.Prelude.{filter, ◌==◌}
use Rattle.board.specs.Board.{Access}
use Rattle.signed.specs.Sent.{sent_in}
use Rattle.trace.specs.SignedText.{letter_lines}
use Rattle.trace.specs.Text.{access_line, text}
use Rattle.trace.proofs.RoundLemmas.{round_parts}
use Rattle.trace.proofs.WrittenLemmas.{then_wrote, wrote-same}
use Rattle.trace.proofs.signed_letters.put_one.Goals as goal

pub returns : goal.returns
returns g c =
    let d = c.args.chronicle.now in
    let round = c.args.round in
    let accesses = wrote-same _ _ (ap (λ (xs : List Access). text (map access_line (filter (λ a. a.round == round) xs))) c.accesses.ensures) c.put_accesses.ensures in
    wrote-same _ _ (round_parts (letter_lines (sent_in d.scenario d.letters) round) round d.accesses c.args.letters.now) (then_wrote (then_wrote c.put_round.ensures accesses) c.put_letters.ensures)
