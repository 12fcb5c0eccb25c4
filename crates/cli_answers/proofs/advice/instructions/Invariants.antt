use Rattle.std.proofs.Common.{◌≡◌, length}
use Rattle.serde_json.specs.View.{items_view}
use Rattle.text.specs.Parts.{pieces}
use Rattle.cli_answers.specs.Advice.{instructions, quote}
use Rattle.cli_answers.proofs.ItemLemmas.{join}
use Rattle.cli_answers.proofs.advice.instructions.Given as goal

abbrev pub invariant-loop-quoted : goal.invariant-loop-quoted
invariant-loop-quoted l = join (items_view l.items.items) (instructions (pieces quote l.rest)) ≡ instructions (pieces quote l.help)

abbrev pub decreases-loop-quoted : goal.decreases-loop-quoted
decreases-loop-quoted l = length l.rest
