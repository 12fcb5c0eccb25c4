-- Defines sets of numbers as pairs: the ends of a range, and the mask and the value of known bits.
use Rattle.std.specs.Prelude.{ℕ}

-- A range, given by its ends, and known bits, given by their mask and value.
pub record Numbers : Type 0 where
  pub range : ℕ × ℕ
  pub bits : ℕ × ℕ
