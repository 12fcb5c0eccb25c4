use Rattle.std.proofs.Common.{◌≡◌, ◌-◌}
use Rattle.std.specs.Prelude.{slice_get}
use Rattle.text.specs.Parts.{lines_of}
use Rattle.cli_report.proofs.lines.line_at.Given as goal

abbrev pub invariant-lines : goal.invariant-lines
invariant-lines l = slice_get (lines_of l.rest) (l.left - 1) ≡ slice_get (lines_of l.fn.text) (l.fn.number - 1)

abbrev pub decreases-lines : goal.decreases-lines
decreases-lines l = l.left
