use Rattle.std.proofs.Common.{◌≡◌, take, drop}
use Rattle.semantics.specs.Memory.{are_pieces}
use Rattle.mem.proofs.StoredPointers.{rest_of}
use Rattle.mem.proofs.cells.are_pieces.Given as goal

abbrev pub invariant-loop-i : goal.invariant-loop-i
invariant-loop-i l = are_pieces l.region l.offset 0 (take 8 (drop l.place l.stack)) ≡ are_pieces l.region l.offset l.i (rest_of l.stack l.place l.i)
