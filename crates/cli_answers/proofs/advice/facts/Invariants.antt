use Rattle.std.proofs.Common.{◌≡◌, length}
use Rattle.serde_json.specs.View.{items_view}
use Rattle.text.specs.Parts.{lines_of}
use Rattle.cli_answers.specs.Advice.{fact_of}
use Rattle.cli_answers.specs.Instructions.{each}
use Rattle.cli_answers.proofs.ItemLemmas.{join}
use Rattle.cli_answers.proofs.advice.facts.Given as goal

abbrev pub invariant-loop-first : goal.invariant-loop-first
invariant-loop-first l = join (items_view l.facts.items) (each fact_of (lines_of l.rest)) ≡ each fact_of (lines_of l.lines)

abbrev pub decreases-loop-first : goal.decreases-loop-first
decreases-loop-first l = length l.rest
