-- Compares orders of accesses: at the first access in which two differ, the lesser one has the general with the lower
-- number (own).
use Rattle.std.specs.Prelude.{ℕ, cond, List}
use Rattle.std.specs.declared.cmp.Ordering.{Ordering}
use Rattle.std.specs.Ordering.{nat_cmp, ordering_then, is_lt}
use Rattle.std.specs.Cmp.Lexicographic.{slice_cmp}

-- Compares two orders of the accesses of one round.
abbrev pub names_cmp : List ℕ → List ℕ → Ordering
names_cmp = slice_cmp nat_cmp

-- Compares two orders of a campaign's accesses, round by round.
abbrev pub order_cmp : List (List ℕ) → List (List ℕ) → Ordering
order_cmp = slice_cmp names_cmp

-- Returns the lesser of two orders, or `order` if they are the same.
abbrev pub lesser : List (List ℕ) → List (List ℕ) → List (List ℕ)
lesser order other = cond (is_lt (order_cmp other order)) other order

-- The beginning of an order of accesses: the generals who made the accesses of each closed round, and those of the open
-- round.
abbrev pub Beginning : Type 0
Beginning = List (List ℕ) × List ℕ

-- Compares two beginnings of orders: first by their closed rounds, then by their open rounds.
abbrev pub beginning_cmp : Beginning → Beginning → Ordering
beginning_cmp a b = ordering_then (order_cmp a.0 b.0) (names_cmp a.1 b.1)
