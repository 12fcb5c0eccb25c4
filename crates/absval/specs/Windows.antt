-- Defines windows: the cells that an access by an abstract pointer may touch. A cell is one byte of a region.
use Rattle.std.specs.Prelude.{ℕ, ℤ, pos, ◌+◌, ◌-◌, ◌≤◌, ◌+ℤ◌, ◌&&◌, nat_le, if◌then◌else◌, Option, Some, None, Result, Ok, Err}
use Rattle.semantics.specs.declared.value.Region.{Region}
use Rattle.semantics.specs.declared.value.Region.TheVariants.{Stack, Context}
use Rattle.semantics.specs.State.{Cause}
use Rattle.semantics.specs.Limits.{stack_size}
use Rattle.semantics.specs.Memory.{room_of}
use Rattle.absval.specs.declared.windows.Window.{Window}

-- Returns the index of the cell at offset 0 of a region.
abbrev pub base_of : Region → ℕ
base_of Stack = stack_size
base_of Context = 0

-- States that the `size` cells from an index on are in the window, which has `total` cells from `first` on.
abbrev pub LiesIn : ℕ → ℕ → ℕ → Result ℕ Cause → Type 0
LiesIn first total size (Ok place) = (first ≤ place) × (place + size ≤ first + total)
LiesIn first total size (Err cause) = ⊥

-- Returns the window of accesses of `size` bytes, one at each index from `first` to `last`. There is none if one of
-- their cells is outside the region.
abbrev pub between : ℕ → ℕ → ℤ → ℤ → Option Window
between room size (pos first) (pos last) =
    if nat_le first last && nat_le (last + size) room then Some (record { place = first; size = (last - first) + size })
    else None
between room size _ _ = None

-- Returns the window of an access of `size` bytes at a distance from a pointer with an offset from `low` to `high`.
-- There is none if one of the cells may be outside the region.
abbrev pub window_known : Region → ℤ → ℤ → ℤ → ℕ → Option Window
window_known region low high distance size =
    between (room_of region) size ((low +ℤ distance) +ℤ pos (base_of region))
    ((high +ℤ distance) +ℤ pos (base_of region))
