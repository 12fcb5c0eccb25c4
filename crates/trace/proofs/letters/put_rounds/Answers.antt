use Rattle.std.proofs.Common.{[], List, ◌+◌, subst}
use Rattle.round.specs.Letters.{Letter}
use Rattle.trace.specs.Sinks.{Wrote}
use Rattle.trace.specs.Text.{text, letter_lines}
use Rattle.trace.specs.Lines.{one_round}
use Rattle.trace.proofs.RoundLemmas.{rounds_more, then_lines}
use Rattle.trace.proofs.letters.put_rounds.Goals as goal

pub loop-number-preserved : goal.loop-number-preserved
loop-number-preserved g c =
    then_lines _ _ _ (rounds_more (λ _. letter_lines) c.args.accesses.now c.args.rounds.now c.loop-number.number [] c.loop-number-test.true) c.loop-number.invariant
    (subst (λ (ls : List Letter). Wrote (g.S.Sink.contents c.loop-number.sink) (g.S.Sink.has_failed c.loop-number.sink) (text (one_round (c.loop-number.number + 1) c.args.accesses.now ls)) (g.S.Sink.contents c.put_one.new.sink) (g.S.Sink.has_failed c.put_one.new.sink)) c.letters_of.ensures c.put_one.ensures)
