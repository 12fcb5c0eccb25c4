use Rattle.std.proofs.Common.{◌≡◌, ◌≤◌, ◌+◌, ◌*◌, ◌++◌, ◌∷◌, [], take, length}
use Rattle.trace.specs.Lines.{repeated}
use Rattle.trace.proofs.line_buffer.with_signs.Given as goal

abbrev pub invariant-loop-time : goal.invariant-loop-time
invariant-loop-time l = record {
  written : take l.end l.bytes ≡ take l.fn.count l.fn.bytes ++ repeated l.time (32 ∷ l.sign ∷ []);
  room : l.end ≤ l.fn.count + 11 * l.time;
  long : length l.bytes ≡ length l.fn.bytes;
}
