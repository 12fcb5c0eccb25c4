-- How the code represents the stack's cells. Each cell has a kind, a byte, and the offset of the pointer whose first
-- piece was last stored there. The other pieces of a pointer use the offset at its first piece. If another pointer is
-- stored at the same place, it overwrites all of them.
use Rattle.std.specs.Prelude.{ℕ, zero, suc, ◌+◌, ◌-◌, ◌%◌, ◌≡◌, nat_lt, if◌then◌else◌, List, [], ◌∷◌, ◌++◌, take, drop, length, slice_index}
use Rattle.std.specs.Int.{w32, cast_signed}
use Rattle.semantics.specs.Limits.{stack_size}
use Rattle.semantics.specs.declared.value.Region.{Region}
use Rattle.semantics.specs.declared.value.Region.TheVariants.{Stack, Context}
use Rattle.semantics.specs.declared.value.Cell.{Cell}
use Rattle.semantics.specs.declared.value.Cell.TheVariants.{Empty, Byte, Piece}

-- Returns a list whose elements from `place` on are replaced by those of `new`.
abbrev pub replaced : {A : Type 0} → List A → ℕ → List A → List A
replaced xs place new = take place xs ++ (new ++ drop (place + length new) xs)

-- Returns the region of a stored pointer, by the kind of one of its pieces: 2 to 9 for the stack, 10 to 17 for the
-- context.
abbrev pub region_of : ℕ → Region
region_of kind = if nat_lt kind 10 then Stack else Context

-- Returns the cell at `place` with this kind and byte. Kind 0 means an empty cell, 1 a byte, and the others a piece of
-- a pointer.
abbrev pub cell_of : ℕ → ℕ → List ℕ → ℕ → Cell
cell_of zero byte offsets place = Empty
cell_of (suc zero) byte offsets place = Byte byte
cell_of (suc (suc k)) byte offsets place =
    Piece (k % 8) (region_of (suc (suc k))) (cast_signed w32 (slice_index offsets (place - k % 8)))

-- Returns the cell at `place` that the three arrays represent.
abbrev pub cell_at : List ℕ → List ℕ → List ℕ → ℕ → Cell
cell_at kinds bytes offsets place = cell_of (slice_index kinds place) (slice_index bytes place) offsets place

-- Returns the given number of cells from `place` on that the three arrays represent.
unfoldable pub cells_from : List ℕ → List ℕ → List ℕ → ℕ → ℕ → List Cell
cells_from kinds bytes offsets place zero = []
cells_from kinds bytes offsets place (suc n) =
    cell_at kinds bytes offsets place ∷ cells_from kinds bytes offsets (suc place) n

-- States that each of the three arrays has one element for each of the stack's 512 cells.
pub record HasRoom (kinds bytes offsets : List ℕ) : Type 0 where
  pub kinds_room : length kinds ≡ stack_size
  pub bytes_room : length bytes ≡ stack_size
  pub offsets_room : length offsets ≡ stack_size

-- Returns the kinds of the 8 pieces of a pointer into a region, as one little-endian number.
abbrev pub pieces : Region → ℕ
pieces Stack = 650777868590383874
pieces Context = 1229499251294997258
