-- Defines how orders that may be missing are stored: as a list of orders and a list of flags, which say whether the
-- order was received.
use Rattle.std.specs.Prelude.{ℕ, ◌≡◌, Bool, true, false, List, [], ◌∷◌, map, Option, Some, None, is_some}
use Rattle.label.specs.Oral.{order_of}

-- Returns the order if its flag is set, and otherwise `None`.
abbrev pub value_in : Bool → ℕ → Option ℕ
value_in true order = Some order
value_in false order = None

-- Returns the stored orders, from a list of flags and a list of orders. Each is `None` if its flag is not set.
unfoldable pub values_in : List Bool → List ℕ → List (Option ℕ)
values_in [] orders = []
values_in (told ∷ flags) [] = []
values_in (told ∷ flags) (order ∷ orders) = value_in told order ∷ values_in flags orders

-- States that the two lists store some orders. An order that is missing is stored as RETREAT, which is 0, without its
-- flag.
pub record AreValues (told : List Bool) (orders : List ℕ) : Type 0 where
  pub values : List (Option ℕ)
  pub told_is : told ≡ map is_some values
  pub orders_is : orders ≡ map order_of values
