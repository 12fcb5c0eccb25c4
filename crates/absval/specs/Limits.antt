-- Defines how far a pointer's offsets may be from 0 (own).
use Rattle.std.specs.Prelude.{ℤ, pos, negsuc, Bool, ◌≤ℤ◌, int_le, ◌&&◌}

-- Checks whether an offset is from -65,536 to 65,536.
abbrev pub is_near : ℤ → Bool
is_near offset = int_le (negsuc 65535) offset && int_le offset (pos 65536)

-- States that the offset is from -65,536 to 65,536.
pub record IsOffset (offset : ℤ) : Type 0 where
  pub low : negsuc 65535 ≤ℤ offset
  pub high : offset ≤ℤ pos 65536

-- States that the least offset is at most the greatest, and that both are from -65,536 to 65,536.
pub record AreOffsets (least greatest : ℤ) : Type 0 where
  pub low : negsuc 65535 ≤ℤ least
  pub ordered : least ≤ℤ greatest
  pub high : greatest ≤ℤ pos 65536
