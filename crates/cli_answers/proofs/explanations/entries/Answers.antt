use Rattle.text.specs.Stop.{comma}
use Rattle.cli_answers.specs.Explanations.{entry_of}
use Rattle.cli_answers.proofs.ItemLemmas.{all_ended, more_told}
use Rattle.cli_answers.proofs.explanations.entries.Goals as goal

pub loop-rest-preserved : goal.loop-rest-preserved
loop-rest-preserved c =
    more_told entry_of comma c.loop-rest.items.items c.push.new.self.items c.in-Some-2.value c.in-Some.texts.now c.piece.result.0.now c.piece.result.1 _
    c.piece.ensures.first c.in_ok-push.ensures.items (rw c.in-Some-2.is at c.in_ok-value.ensures) (rw c.in-Some.is at c.loop-rest.invariant)

pub returns : goal.returns
returns c = all_ended _ _ (rw c.in_default.is at c.loop-rest.invariant)
