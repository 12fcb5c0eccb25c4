-- Defines which stacks an abstract stack describes.
use Rattle.std.specs.Prelude.{ℕ, ◌+◌, ◌*◌, ◌<◌, ◌≡◌, Bool, true, false, List, length, slice_index_or, slice_range}
use Rattle.semantics.specs.declared.value.Cell.{Cell}
use Rattle.semantics.specs.declared.value.Cell.TheVariants.{Empty, Byte, Piece}
use Rattle.semantics.specs.Memory.{pieces_of}
use Rattle.absmem.specs.declared.spill.Spill.{Spill}
use Rattle.absmem.specs.declared.spill.Spill.TheVariants.{Free, Whole}
use Rattle.absmem.specs.Known.{Known, byte_at, spill_at}

-- States that the cell is a byte.
abbrev pub IsByte : Cell → Type 0
IsByte Empty = ⊥
IsByte (Byte b) = b < 256
IsByte (Piece i region offset) = ⊥

-- States that the cell is a byte, if the flag says that this is known.
abbrev pub IsByteIf : Bool → Cell → Type 0
IsByteIf true cell = IsByte cell
IsByteIf false cell = Unit {0}

-- Returns the cell with index `k`, or an empty one outside the stack.
abbrev pub cell_at : List Cell → ℕ → Cell
cell_at cells k = slice_index_or cells k Empty

-- States that every cell is a byte.
abbrev pub AreBytes : List Cell → Type 0
AreBytes cells = (k : ℕ) → k < length cells → IsByte (cell_at cells k)

-- States that the pointer that is known to begin in block `b`, if there is one, is stored there.
abbrev pub StandsAt : List Cell → ℕ → Spill → Type 0
StandsAt cells b Free = Unit {0}
StandsAt cells b (Whole shift region offset) =
    slice_range cells (8 * b + shift) (8 * b + shift + 8) ≡ pieces_of region offset

-- States that the abstract stack describes the cells: what it says of bytes and whole pointers is true of them.
pub record Describes (known : Known) (cells : List Cell) : Type 0 where
  pub bytes : (k : ℕ) → IsByteIf (byte_at known.bytes k) (cell_at cells k)
  pub spills : (b : ℕ) → b < 64 → StandsAt cells b (spill_at known.spills b)
