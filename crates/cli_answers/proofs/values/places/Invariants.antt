use Rattle.std.proofs.Common.{◌≡◌}
use Rattle.serde_json.specs.View.{items_view}
use Rattle.text.specs.Parts.{left, left_len}
use Rattle.text.specs.Stop.{space}
use Rattle.cli_answers.specs.Values.{all, place_of}
use Rattle.cli_answers.proofs.ItemLemmas.{onto}
use Rattle.cli_answers.proofs.values.places.Given as goal

abbrev pub invariant-loop-rest : goal.invariant-loop-rest
invariant-loop-rest l = onto (items_view l.items.items) (all place_of (left space l.rest)) ≡ all place_of (left space l.words)

abbrev pub decreases-loop-rest : goal.decreases-loop-rest
decreases-loop-rest l = left_len l.rest
