-- Windows: the bytes that an access touches in its region.
use Rattle.std.specs.Prelude.{ℕ, ℤ, ◌+ℤ◌, List, take, drop, Result, Ok, Err}
use Rattle.semantics.specs.declared.value.Region.{Region}
use Rattle.semantics.specs.declared.value.Value.{Value}
use Rattle.semantics.specs.declared.value.Value.TheVariants.{Unset, Number, Pointer}
use Rattle.semantics.specs.declared.value.Cell.{Cell}
use Rattle.semantics.specs.State.{Cause, UnsetRegister, PointerUse, given}
use Rattle.semantics.specs.Memory.{window, region_cells}

-- Returns the region of the pointer, and the index in it of the first of `size` bytes at a distance from the pointer,
-- or the cause of a trap.
abbrev pub place_at : Value → ℤ → ℕ → Result (Region × ℕ) Cause
place_at Unset distance size = Err UnsetRegister
place_at (Number n) distance size = Err PointerUse
place_at (Pointer region offset) distance size =
    given (window region (offset +ℤ distance) size) (λ place. Ok (region, place))

-- Returns the `size` cells of a region from an index on.
abbrev pub part_at : List ℕ → List Cell → ℕ → Region × ℕ → List Cell
part_at context stack size p = take size (drop p.1 (region_cells context stack p.0))
