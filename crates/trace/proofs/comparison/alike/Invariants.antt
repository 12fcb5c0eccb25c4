use Rattle.std.proofs.Common.{◌≡◌, take}
use Rattle.trace.proofs.comparison.alike.Given as goal

abbrev pub invariant-loop-count : goal.invariant-loop-count
invariant-loop-count l = take l.count l.text ≡ take l.count l.piece
