use Rattle.std.proofs.Common.{◌≡◌}
use Rattle.serde_json.specs.View.{items_view}
use Rattle.text.specs.Parts.{left, left_len}
use Rattle.text.specs.Stop.{semicolon}
use Rattle.cli_answers.specs.Instructions.{each, shown}
use Rattle.cli_answers.proofs.ItemLemmas.{join}
use Rattle.cli_answers.proofs.instructions.parts.Given as goal

abbrev pub invariant-loop-rest : goal.invariant-loop-rest
invariant-loop-rest l = join (items_view l.items.items) (each shown (left semicolon l.rest)) ≡ each shown (left semicolon l.text)

abbrev pub decreases-loop-rest : goal.decreases-loop-rest
decreases-loop-rest l = left_len l.rest
