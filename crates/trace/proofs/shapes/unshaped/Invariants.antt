use Rattle.std.proofs.Common.{◌≡◌, ◌+◌, ◌≤◌, length}
use Rattle.text.specs.Stop.{feed}
use Rattle.text.specs.Parts.{left_len, pieces}
use Rattle.trace.specs.Marks.{lines_left}
use Rattle.trace.specs.Shapes.{unshaped_from}
use Rattle.trace.proofs.shapes.unshaped.Given as goal

abbrev pub invariant-loop-rest : goal.invariant-loop-rest
invariant-loop-rest l = record {
  same : unshaped_from l.number (lines_left l.rest) ≡ unshaped_from 1 (pieces feed l.text);
  least : 1 ≤ l.number;
  bound : l.number + left_len l.rest ≤ length l.text + 2;
}

abbrev pub decreases-loop-rest : goal.decreases-loop-rest
decreases-loop-rest l = left_len l.rest
