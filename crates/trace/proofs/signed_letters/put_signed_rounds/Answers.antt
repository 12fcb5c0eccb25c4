use Rattle.std.proofs.Common.{[], List, ◌≡◌, ◌+◌, ◌<◌, ◌∙◌, ap, arith, get_or, length, subst}
use Rattle.round.specs.Letters.{Letter}
use Rattle.signed.specs.Sent.{sent_in}
use Rattle.trace.specs.Lines.{round_told}
use Rattle.trace.specs.SignedText.{letter_lines}
use Rattle.trace.specs.Sinks.{Wrote}
use Rattle.trace.specs.Text.{text}
use Rattle.trace.proofs.RoundLemmas.{rounds_more, then_lines}
use Rattle.trace.proofs.signed_letters.put_signed_rounds.Goals as goal

pub loop-number-preserved : goal.loop-number-preserved
loop-number-preserved g c =
    let d = c.args.chronicle.now in
    let i = c.loop-number.number in
    let told = letter_lines (sent_in d.scenario d.letters) in
    let inside : i < length d.letters = let e = ap length c.letters-rounds.ensures in let t = c.loop-number-test.true in omega arith in
    let here : c.letters_of.result.now ≡ get_or d.letters i [] = c.letters_of.ensures ∙ ap (λ (ls : List (List Letter)). get_or ls i []) c.letters-rounds.ensures in
    then_lines _ _ _ (rounds_more told d.accesses d.letters i [] inside) c.loop-number.invariant
    (subst (λ (ls : List Letter). Wrote (g.S.Sink.contents c.loop-number.sink) (g.S.Sink.has_failed c.loop-number.sink) (text (round_told (told (i + 1)) (i + 1) d.accesses ls)) (g.S.Sink.contents c.put_one.new.sink) (g.S.Sink.has_failed c.put_one.new.sink)) here c.put_one.ensures)
