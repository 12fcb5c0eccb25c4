-- A borrowed view of the orders for one label's receivers.
use Rattle.std.specs.Prelude.{ℕ, [], Option, None, Some}
use Rattle.outbox.specs.declared.orders.Orders.{Orders}
use Rattle.outbox.specs.declared.orders.Orders.TheVariants.{Alike, Apart, Nobody}
use Rattle.outbox.specs.Rows.{RowOrders, order_in}

-- Returns the row to which a borrowed view refers.
abbrev pub orders_seen : Orders → RowOrders
orders_seen (Alike row) = row.now
orders_seen (Apart row) = row.now
orders_seen Nobody = []

-- Returns the order for this receiver in a row, or `None` if there is no row or no order.
abbrev pub order_of_row : Option Orders → ℕ → Option ℕ
order_of_row None receiver = None
order_of_row (Some row) receiver = order_in receiver (orders_seen row)
