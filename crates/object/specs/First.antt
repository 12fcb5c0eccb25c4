-- The first value that a function has at the numbers below a bound.
use Rattle.std.specs.Prelude.{ℕ, zero, suc, Option, Some, None}

-- Returns the first value if there is one, and otherwise the second.
abbrev pub or_else : {A : Type 0} → Option A → Option A → Option A
or_else None other = other
or_else (Some first) other = Some first

-- Returns the value of `f` at the least number below the bound at which it has one.
unfoldable pub first_some : {A : Type 0} → (ℕ → Option A) → ℕ → Option A
first_some f zero = None
first_some f (suc n) = or_else (first_some f n) (f n)
