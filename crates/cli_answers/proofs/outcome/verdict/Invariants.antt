use Rattle.std.proofs.Common.{◌≡◌, length}
use Rattle.std.specs.Prelude.{find}
use Rattle.text.specs.Parts.{lines_of}
use Rattle.cli_answers.specs.Printing.{is_verdict}
use Rattle.cli_answers.proofs.outcome.verdict.Given as goal

abbrev pub invariant-loop-first : goal.invariant-loop-first
invariant-loop-first l = find is_verdict (lines_of l.rest) ≡ find is_verdict (lines_of l.text)

abbrev pub decreases-loop-first : goal.decreases-loop-first
decreases-loop-first l = length l.rest
