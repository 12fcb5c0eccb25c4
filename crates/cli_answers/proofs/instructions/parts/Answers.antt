use Rattle.text.specs.Parts.{left, pieces}
use Rattle.text.specs.Stop.{semicolon}
use Rattle.cli_answers.specs.Instructions.{shown}
use Rattle.cli_answers.proofs.ItemLemmas.{array_told, given_left, more_each}
use Rattle.cli_answers.proofs.instructions.parts.Goals as goal

pub loop-rest-preserved-in_ok-push : goal.loop-rest-preserved-in_ok-push
loop-rest-preserved-in_ok-push c =
    more_each shown c.loop-rest.items.items c.push.new.self.items c.in-Some-2.value (pieces semicolon c.in-Some.parts.now) (left semicolon c.piece.result.1) c.piece.result.0.now _
    (given_left semicolon c.piece.result.0.now c.piece.result.1 _ c.piece.ensures.first) c.in_ok-push.ensures.items (rw c.in-Some-2.is at c.in_ok-value.ensures)
    (rw c.in-Some.is at c.loop-rest.invariant)

pub returns : goal.returns
returns c = array_told c.loop-rest.items _ (rw c.in_default.is at c.loop-rest.invariant)
