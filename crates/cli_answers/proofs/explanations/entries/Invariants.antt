use Rattle.std.proofs.Common.{◌≡◌}
use Rattle.serde_json.specs.View.{items_view}
use Rattle.text.specs.Parts.{left, left_len}
use Rattle.text.specs.Stop.{comma}
use Rattle.cli_answers.specs.Explanations.{entry_of}
use Rattle.cli_answers.specs.Values.{all}
use Rattle.cli_answers.proofs.ItemLemmas.{onto}
use Rattle.cli_answers.proofs.explanations.entries.Given as goal

abbrev pub invariant-loop-rest : goal.invariant-loop-rest
invariant-loop-rest l = onto (items_view l.items.items) (all entry_of (left comma l.rest)) ≡ all entry_of (left comma l.texts)

abbrev pub decreases-loop-rest : goal.decreases-loop-rest
decreases-loop-rest l = left_len l.rest
