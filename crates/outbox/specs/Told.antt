-- The orders for a label's receivers, of which equal ones may be stored once.
use Rattle.std.specs.Prelude.{ℕ, List, Option, replicate}
use Rattle.outbox.specs.declared.told_orders.ReceiverOrders.{ReceiverOrders}
use Rattle.outbox.specs.declared.told_orders.ReceiverOrders.TheVariants.{Alike, Apart}

-- Returns the order, or `None`, for each receiver, ascending by receiver.
abbrev pub orders_told : ReceiverOrders → List (Option ℕ)
orders_told (Alike order times) = replicate times order
orders_told (Apart orders) = orders.items
