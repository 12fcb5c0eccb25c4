-- The row of one label in an outbox.
use Rattle.std.specs.Prelude.{ℕ, zero, suc, ◌≡◌, ◌+◌, ◌==◌, true, false, if◌then◌else◌, List, [], ◌∷◌, map, length, Option, Some, None, slice_index_or}
use Rattle.label.specs.declared.shape.Shape.{Shape}
use Rattle.label.specs.Labels.{on, is_distinct}
use Rattle.label.specs.Oral.{AllBelow}
use Rattle.label.specs.Relay.{receivers}

-- A row: the receivers of a label, ascending, each with his order or nothing.
abbrev pub RowOrders : Type 0
RowOrders = List (ℕ × Option ℕ)

-- Returns the receivers of a row.
abbrev pub receivers_in : RowOrders → List ℕ
receivers_in row = map (λ p. p.0) row

-- Returns the orders of a row, an order or `None` for each receiver.
abbrev pub orders_in : RowOrders → List (Option ℕ)
orders_in row = map (λ p. p.1) row

-- Returns the row of these receivers. `orders` has an order or `None` for each general's number.
abbrev pub row_of : List (Option ℕ) → List ℕ → RowOrders
row_of orders names = map (λ n. (n, slice_index_or orders n None)) names

-- States that orders are stored for the numbers 0 to 12, that the receivers are different, and that a general who is
-- not a receiver has no order.
pub record IsRow (orders : List (Option ℕ)) (names : List ℕ) : Type 0 where
  pub long : length orders ≡ 13
  pub below : AllBelow 13 names
  pub distinct : is_distinct names ≡ true
  pub absent : (n : ℕ) → on names n ≡ false → slice_index_or orders n None ≡ None

-- Returns a row for these receivers, none of whom has an order.
abbrev pub empty_row : List ℕ → RowOrders
empty_row names = map (λ n. (n, None)) names

-- Returns the empty row of a label, which has the label's receivers.
abbrev pub row_for : Shape → List ℕ → RowOrders
row_for s label = empty_row (receivers s label)

-- Returns the element `p` of a row after an order is put for this receiver.
abbrev pub put_one : ℕ → ℕ → ℕ × Option ℕ → ℕ × Option ℕ
put_one receiver order p = (p.0, (if p.0 == receiver then Some order else p.1))

-- Returns the row after an order is put for this receiver.
abbrev pub put_in_row : ℕ → ℕ → RowOrders → RowOrders
put_in_row receiver order row = map (put_one receiver order) row

-- Returns the rows after an order is put for receiver `r` in each of the first `m` rows that has him. `f` gives the
-- order for a row's rank, and the first row has rank `a`.
abbrev pub put_first : ℕ → (ℕ → ℕ) → ℕ → ℕ → List RowOrders → List RowOrders
put_first r f a zero rows = rows
put_first r f a (suc m) [] = []
put_first r f a (suc m) (row ∷ rows) = put_in_row r (f a) row ∷ put_first r f (a + 1) m rows

-- Returns how many of the first `m` rows have `r` as a receiver.
abbrev pub found_first : ℕ → ℕ → List RowOrders → ℕ
found_first r zero rows = 0
found_first r (suc m) [] = 0
found_first r (suc m) (row ∷ rows) = (if on (receivers_in row) r then 1 else 0) + found_first r m rows

-- States that a function's result is always the value of `f` at its argument.
abbrev pub Tells : (ℕ → ℕ → Type 0) → (ℕ → ℕ) → Type 0
Tells results f = (n result : ℕ) → results n result → result ≡ f n

-- Returns the row after this order is put for all receivers.
abbrev pub all_put : ℕ → RowOrders → RowOrders
all_put order row = map (λ p. (p.0, Some order)) row

-- Returns the row after the first order is put for the first receiver, the second for the second, and so on. Orders
-- beyond the last receiver are ignored.
abbrev pub filled : List ℕ → RowOrders → RowOrders
filled [] row = row
filled (order ∷ orders) [] = []
filled (order ∷ orders) (p ∷ row) = (p.0, Some order) ∷ filled orders row

-- Returns the order for this receiver in a row, or `None` if he has none or is not in the row.
abbrev pub order_in : ℕ → RowOrders → Option ℕ
order_in receiver [] = None
order_in receiver (p ∷ row) = if p.0 == receiver then p.1 else order_in receiver row

-- Returns the row in which all of these receivers have the same order, or none has one.
abbrev pub alike_row : Option ℕ → List ℕ → RowOrders
alike_row order names = map (λ n. (n, order)) names

-- Returns the rows of an outbox: the mixed ones if there are any, otherwise the uniform ones.
abbrev pub rows_seen : List RowOrders → List RowOrders → List RowOrders
rows_seen alike [] = alike
rows_seen alike (row ∷ rows) = row ∷ rows
