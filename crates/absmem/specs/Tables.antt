-- Defines lists by their items (own).
use Rattle.std.specs.Prelude.{ℕ, List, map}
use Rattle.std.specs.List.{range_with_len}

-- Returns the list of `n` items in which `entry` gives the item at each index.
unfoldable pub table : {A : Type 0} → ℕ → (ℕ → A) → List A
table n entry = map entry (range_with_len 0 n)
