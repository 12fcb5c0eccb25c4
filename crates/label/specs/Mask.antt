-- A set of generals as the bits of a number.
use Rattle.std.specs.Prelude.{ℕ, ◌<◌, ◌≡◌, cond, List}
use Rattle.std.specs.Int.{bit_at}
use Rattle.label.specs.Labels.{on}

-- States that bit j of `free`, for each j below 32, is set exactly if general j is not in the list.
pub record IsFree (free : ℕ) (v : List ℕ) : Type 0 where
  pub bits : (j : ℕ) → j < 32 → bit_at free j ≡ cond (on v j) 0 1
