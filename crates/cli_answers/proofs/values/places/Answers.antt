use Rattle.text.specs.Stop.{space}
use Rattle.cli_answers.specs.Values.{place_of}
use Rattle.cli_answers.proofs.ItemLemmas.{all_told, more_told}
use Rattle.cli_answers.proofs.values.places.Goals as goal

pub loop-rest-preserved : goal.loop-rest-preserved
loop-rest-preserved c =
    more_told place_of space c.loop-rest.items.items c.push.new.self.items c.in-Some-place.value c.in-Some.numbers.now c.piece.result.0.now c.piece.result.1 _
    c.piece.ensures.first c.in_ok-push.ensures.items (rw c.in-Some-place.is at c.place.ensures) (rw c.in-Some.is at c.loop-rest.invariant)

pub returns : goal.returns
returns c = all_told place_of c.loop-rest.items _ (rw c.in_default.is at c.loop-rest.invariant)
