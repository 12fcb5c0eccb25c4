-- Defines a computation in two steps, each of which may have no result.
use Rattle.std.specs.Prelude.{Option, Some, None}

infixl 10 ◌>>=◌
-- Applies the function `f` to the result of the first step. Returns `None` if the first step has no result.
abbrev pub ◌>>=◌ : {A B : Type 0} → Option A → (A → Option B) → Option B
None >>= f = None
(Some x) >>= f = f x
