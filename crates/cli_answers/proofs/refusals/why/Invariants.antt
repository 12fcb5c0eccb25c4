use Rattle.std.proofs.Common.{◌≡◌, length}
use Rattle.std.specs.Prelude.{option_map}
use Rattle.std.specs.Option.{option_or}
use Rattle.text.specs.Parts.{lines_of}
use Rattle.cli_answers.specs.Refusals.{why}
use Rattle.cli_answers.proofs.refusals.why.Given as goal

abbrev pub invariant-loop-first : goal.invariant-loop-first
invariant-loop-first l = option_or (why (lines_of l.rest)) (option_map (λ o. o.now) l.last) ≡ why (lines_of l.lines)

abbrev pub decreases-loop-first : goal.decreases-loop-first
decreases-loop-first l = length l.rest
