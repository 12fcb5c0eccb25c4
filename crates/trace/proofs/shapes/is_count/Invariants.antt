use Rattle.std.proofs.Common.{◌≡◌, ◌+◌, ◌≤◌, ◌&&◌, ◌==◌, length}
use Rattle.std.specs.List.{list_all}
use Rattle.text.specs.Stop.{space}
use Rattle.text.specs.Parts.{left, left_len}
use Rattle.trace.specs.Shapes.{is_number}
use Rattle.trace.proofs.shapes.is_count.Given as goal

abbrev pub invariant-loop-rest : goal.invariant-loop-rest
invariant-loop-rest l = record {
  same : list_all is_number (left space l.rest) && l.count == length (left space l.rest) + l.met ≡ list_all is_number (left space l.words) && l.count == length (left space l.words);
  bound : l.met + left_len l.rest ≤ left_len l.words;
}

abbrev pub decreases-loop-rest : goal.decreases-loop-rest
decreases-loop-rest l = left_len l.rest
