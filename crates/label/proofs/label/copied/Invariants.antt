use Rattle.std.proofs.Common.{◌≡◌, take}
use Rattle.label.proofs.label.copied.Given as goal

abbrev pub invariant-loop-x : goal.invariant-loop-x
invariant-loop-x l = l.copy.items ≡ take l.x-index l.generals
