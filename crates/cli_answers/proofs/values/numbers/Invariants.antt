use Rattle.std.proofs.Common.{◌≡◌}
use Rattle.serde_json.specs.View.{items_view}
use Rattle.text.specs.Parts.{left, left_len, pieces}
use Rattle.text.specs.Stop.{dot}
use Rattle.cli_answers.specs.Values.{all, number_of}
use Rattle.cli_answers.proofs.ItemLemmas.{onto}
use Rattle.cli_answers.proofs.values.numbers.Given as goal

abbrev pub invariant-loop-rest : goal.invariant-loop-rest
invariant-loop-rest l = onto (items_view l.items.items) (all number_of (left dot l.rest)) ≡ all number_of (pieces dot l.fn.word)

abbrev pub decreases-loop-rest : goal.decreases-loop-rest
decreases-loop-rest l = left_len l.rest
