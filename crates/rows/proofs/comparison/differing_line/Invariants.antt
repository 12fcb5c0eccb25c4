use Rattle.std.proofs.Common.{◌≡◌, ◌+◌, ◌≤◌, drop}
use Rattle.rows.specs.Comparing.{parting}
use Rattle.rows.proofs.comparison.differing_line.Given as goal

abbrev pub invariant-loop-byte : goal.invariant-loop-byte
invariant-loop-byte l = record {
  goes_on : parting l.line (drop l.byte-index l.told) l.rest ≡ parting 1 l.told l.stored;
  few : l.line ≤ l.byte-index + 1;
}
