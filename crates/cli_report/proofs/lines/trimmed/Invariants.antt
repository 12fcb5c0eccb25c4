use Rattle.std.proofs.Common.{◌≡◌, ◌≤◌, length, take}
use Rattle.cli_report.specs.Lines.{trimmed}
use Rattle.cli_report.proofs.lines.trimmed.Given as goal

abbrev pub invariant-ends : goal.invariant-ends
invariant-ends l = (l.size ≤ length l.line) × (trimmed (take l.size l.line) ≡ trimmed l.line)

abbrev pub decreases-ends : goal.decreases-ends
decreases-ends l = l.size
