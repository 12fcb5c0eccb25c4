use Rattle.std.proofs.Common.{◌≡◌, ◌≤◌, ◌+◌, ◌*◌, length}
use Rattle.asm.specs.Program.{Read, read_on, nothing, lines_of}
use Rattle.asm.specs.Keeping.{Keeps}
use Rattle.asm.proofs.reader.gather.Given as goal

abbrev pub invariant-loop-line : goal.invariant-loop-line
invariant-loop-line l = record {
  room : l.reading.units + 2 * length l.rest ≤ 2 * length l.fn.text;
  counted : l.lines + length l.rest ≤ length l.fn.text;
  numbered : l.lines + length (lines_of l.rest) ≡ length (lines_of l.fn.text);
  kept : (r : Read) × Keeps l.reading r × (read_on r (l.lines + 1) (lines_of l.rest) ≡ read_on nothing 1 (lines_of l.fn.text));
}

abbrev pub decreases-loop-line : goal.decreases-loop-line
decreases-loop-line l = length l.rest
