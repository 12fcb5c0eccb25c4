use Rattle.std.proofs.Common.{◌≡◌, ◌≤◌, ◌+◌, length}
use Rattle.text.specs.Parts.{lines_of}
use Rattle.cli_report.specs.Keys.{found_on}
use Rattle.cli_report.proofs.keys.find_line.Given as goal

abbrev pub invariant-loop-line : goal.invariant-loop-line
invariant-loop-line l = record {
  counted : l.tables + length l.rest ≤ length l.fn.text;
  numbered : l.number + length l.rest ≤ length l.fn.text + 1;
  goes_on : found_on l.sought l.word l.tables l.number (lines_of l.rest) ≡ found_on l.sought l.word 0 1 (lines_of l.fn.text);
}

abbrev pub decreases-loop-line : goal.decreases-loop-line
decreases-loop-line l = length l.rest
