use Rattle.std.proofs.Common.{◌≡◌, length}
use Rattle.text.specs.Parts.{lines_of}
use Rattle.cli_answers.specs.Advice.{help_of}
use Rattle.cli_answers.proofs.advice.help_of.Given as goal

abbrev pub invariant-loop-first : goal.invariant-loop-first
invariant-loop-first l = help_of (lines_of l.rest) ≡ help_of (lines_of l.lines)

abbrev pub decreases-loop-first : goal.decreases-loop-first
decreases-loop-first l = length l.rest
