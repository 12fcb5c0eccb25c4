use Rattle.text.specs.Stop.{dot}
use Rattle.cli_answers.specs.Values.{number_of}
use Rattle.cli_answers.proofs.ItemLemmas.{all_told, more_told}
use Rattle.cli_answers.proofs.values.numbers.Goals as goal

pub loop-rest-preserved : goal.loop-rest-preserved
loop-rest-preserved c =
    more_told number_of dot c.loop-rest.items.items c.push.new.self.items c.in-Some-number.value c.in-Some.numbers.now c.piece.result.0.now c.piece.result.1 _
    c.piece.ensures.first c.in_ok-push.ensures.items (rw c.in-Some-number.is at c.number.ensures) (rw c.in-Some.is at c.loop-rest.invariant)

pub returns : goal.returns
returns c = all_told number_of c.loop-rest.items _ (rw c.in_default.is at c.loop-rest.invariant)
