use Rattle.std.proofs.Common.{◌≡◌, length}
use Rattle.text.specs.Parts.{lines_of}
use Rattle.cli_answers.specs.Refusals.{reported}
use Rattle.cli_answers.proofs.refusals.reported.Given as goal

abbrev pub invariant-loop-first : goal.invariant-loop-first
invariant-loop-first l = reported (lines_of l.rest) ≡ reported (lines_of l.lines)

abbrev pub decreases-loop-first : goal.decreases-loop-first
decreases-loop-first l = length l.rest
