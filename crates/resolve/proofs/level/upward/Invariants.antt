use Rattle.std.proofs.Common.{◌≡◌, take}
use Rattle.resolve.proofs.level.upward.Given as goal

abbrev pub invariant-loop-x : goal.invariant-loop-x
invariant-loop-x g l = l.orders.items ≡ take l.x-index l.children
