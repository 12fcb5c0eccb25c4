-- Defines what is known of one cell of the stack: that it has a byte of a number, that it has a piece of a pointer that
-- is stored as a whole, or nothing (own).
use Rattle.std.specs.Prelude.{ℕ, ℤ, zero, suc, ◌-◌, ◌/◌, ◌%◌, ◌&&◌, nat_le, nat_lt, Bool, true, false, if◌then◌else◌, Option, Some, None}
use Rattle.std.specs.Option.{option_or}
use Rattle.std.specs.Ordering.{int_eq}
use Rattle.semantics.specs.Limits.{stack_size}
use Rattle.semantics.specs.Memory.{is_same_region}
use Rattle.semantics.specs.declared.value.Region.{Region}
use Rattle.absmem.specs.Known.{Known, byte_at, spill_at, pointer_of}
use Rattle.reaching.specs.declared.cells.CellContent.{CellContent}
use Rattle.reaching.specs.declared.cells.CellContent.TheVariants.{Unset, Byte, Piece}

-- Returns the pointer that is known to be stored in the eight cells from cell `place` on. Returns `None` if no whole
-- pointer is known to be there.
abbrev pub pointer_from : Known → ℕ → Option (Region × ℤ)
pointer_from known place = if nat_le place 504 then pointer_of (place % 8) (spill_at known.spills (place / 8)) else None

-- Returns the first pointer that is known to be stored from cell `place` on, or from one of the cells below it. The
-- search goes down over the given number of cells.
abbrev pub pointer_over : Known → ℕ → ℕ → Option (Region × ℤ)
pointer_over known place zero = None
pointer_over known place (suc n) = option_or (pointer_from known place) (pointer_over known (place - 1) n)

-- Returns the piece of a pointer as what is known of a cell. Returns `Unset` if there is no pointer.
abbrev pub piece_of : Option (Region × ℤ) → CellContent
piece_of None = Unset
piece_of (Some pointer) = Piece pointer.0 pointer.1

-- Returns what is known of a cell of the stack. A pointer takes eight cells, so it may begin up to seven cells lower.
abbrev pub content_in : Known → ℕ → CellContent
content_in known place = if byte_at known.bytes place then Byte else piece_of (pointer_over known place 8)

-- Returns what is known of cell `place` of the stack. Returns `Unset` if there is no such cell.
abbrev pub held_at : Known → ℕ → CellContent
held_at known place = if nat_lt place stack_size then content_in known place else Unset

-- Checks whether the same is known of two cells.
abbrev pub same_content : CellContent → CellContent → Bool
same_content Unset Unset = true
same_content Byte Byte = true
same_content (Piece region offset) (Piece second place) = is_same_region region second && int_eq offset place
same_content _ _ = false
