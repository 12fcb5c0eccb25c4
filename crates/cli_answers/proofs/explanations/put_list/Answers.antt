use Rattle.text.specs.Stop.{comma}
use Rattle.cli_answers.proofs.ItemLemmas.{given_left}
use Rattle.cli_answers.proofs.explanations.put_list.Goals as goal

pub returns : goal.returns
returns c = rw (given_left comma c.piece.result.0.now c.piece.result.1 _ c.piece.ensures.first) c.put_entries.ensures
