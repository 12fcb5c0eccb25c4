use Rattle.std.proofs.Common.{◌≡◌, take}
use Rattle.threads.proofs.received.as_array.Given as goal

abbrev pub invariant-loop-order : goal.invariant-loop-order
invariant-loop-order l = l.list.items ≡ take l.order-index l.orders
