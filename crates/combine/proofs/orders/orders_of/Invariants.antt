use Rattle.std.proofs.Common.{◌≡◌, ◌++◌, ◌∷◌, take}
use Rattle.combine.proofs.orders.orders_of.Given as goal

abbrev pub invariant-loop-x : goal.invariant-loop-x
invariant-loop-x l = l.orders.items ≡ take l.x-index l.x-items

abbrev pub invariant-loop-y : goal.invariant-loop-y
invariant-loop-y l = l.orders.items ≡ take l.place l.told ++ l.own ∷ take l.y-index l.y-items
