-- Numbers that are read from cells.
use Rattle.std.specs.Prelude.{ℕ, ℤ, ◌≡◌, ◌==◌, ◌&&◌, Bool, false, List, take, drop, Option, Some, None, Result, Ok, Err}
use Rattle.std.specs.Ordering.{int_eq}
use Rattle.word.specs.Bytes.{little_number}
use Rattle.semantics.specs.declared.value.Region.{Region}
use Rattle.semantics.specs.declared.value.Cell.{Cell}
use Rattle.semantics.specs.declared.value.Cell.TheVariants.{Empty, Byte, Piece}
use Rattle.semantics.specs.State.{Cause, NoBytes, given}
use Rattle.semantics.specs.Memory.{bytes_in, is_same_region}

-- Returns the little-endian number in these cells, or `NoBytes` if one of them is not a byte.
abbrev pub number_in : List Cell → Result ℕ Cause
number_in cells = given (bytes_in cells) (λ bytes. Ok (little_number bytes))

-- States that the option is the little-endian number in the `size` cells from `place` on, or `None` if one of them is
-- not a byte.
abbrev pub Reads : List Cell → ℕ → ℕ → Option ℕ → Type 0
Reads cells place size None = number_in (take size (drop place cells)) ≡ Err NoBytes
Reads cells place size (Some n) = number_in (take size (drop place cells)) ≡ Ok n

-- Returns whether the cell is piece `number` of the pointer with this region and offset.
abbrev pub is_piece : ℕ → Region → ℤ → Cell → Bool
is_piece number region offset Empty = false
is_piece number region offset (Byte b) = false
is_piece number region offset (Piece i other at) = (i == number) && is_same_region other region && int_eq at offset
