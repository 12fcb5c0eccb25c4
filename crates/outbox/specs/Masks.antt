-- Sets of numbers below 16 as bit masks, and orders that are stored with such a set.
use Rattle.std.specs.Prelude.{ℕ, ◌+◌, ◌==◌, Bool, if◌then◌else◌, List, [], ◌∷◌, filter, Option, Some, None}
use Rattle.std.specs.Int.{bit_at}
use Rattle.label.specs.Labels.{generals}

-- Returns whether the number is in the set `mask`.
abbrev pub has_bit : ℕ → ℕ → Bool
has_bit mask n = bit_at mask n == 1

-- Returns the numbers below 13 that are in the set, ascending.
unfoldable pub members : ℕ → List ℕ
members mask = filter (has_bit mask) (generals 13)

-- Returns the orders for the numbers from `place` on, each replaced by `None` if its number is not in the set.
abbrev pub kept_from : ℕ → ℕ → List ℕ → List (Option ℕ)
kept_from mask place [] = []
kept_from mask place (order ∷ orders) =
    (if has_bit mask place then Some order else None) ∷ kept_from mask (place + 1) orders
