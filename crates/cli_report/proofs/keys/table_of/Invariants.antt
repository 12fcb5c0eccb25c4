use Rattle.std.proofs.Common.{◌≡◌, ◌≤◌, ◌+◌, length}
use Rattle.std.specs.Fmt.{decimal}
use Rattle.text.specs.Parts.{lines_of}
use Rattle.cli_report.specs.Keys.{table_of_on}
use Rattle.cli_report.proofs.keys.table_of.Given as goal

abbrev pub invariant-loop-line : goal.invariant-loop-line
invariant-loop-line l = record {
  counted : l.tables + length l.rest ≤ length l.fn.text;
  goes_on : table_of_on (decimal l.fn.general) l.tables (lines_of l.rest) ≡ table_of_on (decimal l.fn.general) 0 (lines_of l.fn.text);
}

abbrev pub decreases-loop-line : goal.decreases-loop-line
decreases-loop-line l = length l.rest
