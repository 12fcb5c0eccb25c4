-- Defines abstract stacks: what is known of the 512 stack cells.
use Rattle.std.specs.Prelude.{Option, Some, None, ℤ, ℕ, ◌+◌, ◌*◌, ◌<◌, ◌≤◌, ◌≡◌, Bool, ◌&&◌, ◌==◌, false, nat_lt, if◌then◌else◌, List, length, slice_index_or}
use Rattle.std.specs.Ordering.{int_eq}
use Rattle.semantics.specs.Limits.{stack_size}
use Rattle.semantics.specs.Memory.{is_same_region}
use Rattle.absval.specs.Limits.{IsOffset}
use Rattle.semantics.specs.declared.value.Region.{Region}
use Rattle.absmem.specs.declared.spill.Spill.{Spill}
use Rattle.absmem.specs.declared.spill.Spill.TheVariants.{Free, Whole}

-- An abstract stack: for each cell, whether it is known to be a byte, and for each block of eight cells, the pointer
-- that is known to begin there.
pub record Known : Type 0 where
  pub bytes : List Bool
  pub spills : List Spill

-- Checks whether a cell is known to be a byte.
abbrev pub byte_at : List Bool → ℕ → Bool
byte_at bytes k = slice_index_or bytes k false

-- Returns what is known of the pointer that begins in block `b`.
abbrev pub spill_at : List Spill → ℕ → Spill
spill_at spills b = slice_index_or spills b Free

-- States that the flags of the cells from `place` up to but not including `end` have become `value`, and that the
-- others are unchanged.
pub record IsSetTo (value : Bool) (old new : List Bool) (place end : ℕ) : Type 0 where
  pub inside : (k : ℕ) → place ≤ k → k < end → byte_at new k ≡ value
  pub before : (k : ℕ) → k < place → byte_at new k ≡ byte_at old k
  pub behind : (k : ℕ) → end ≤ k → byte_at new k ≡ byte_at old k

-- States that the pointer of block `b` begins in this block and is within the stack, and that its offset is from
-- -65,536 to 65,536.
abbrev pub IsFiled : ℕ → Spill → Type 0
IsFiled b Free = Unit {0}
IsFiled b (Whole shift region offset) = (shift < 8) × (8 * b + shift + 8 ≤ stack_size) × IsOffset offset

-- States that the abstract stack has 512 cells and 64 blocks, and that each pointer begins in its block and is within
-- the stack.
pub record IsKnownStack (bytes : List Bool) (spills : List Spill) : Type 0 where
  pub cells : length bytes ≡ stack_size
  pub blocks : length spills ≡ 64
  pub filed : (b : ℕ) → b < 64 → IsFiled b (spill_at spills b)

-- Returns what is known of block `b` after the cells from `place` up to but not including `end` are written: a pointer
-- with a piece in these cells is forgotten.
abbrev pub left_of : ℕ → ℕ → ℕ → Spill → Spill
left_of place end b Free = Free
left_of place end b (Whole shift region offset) =
    if (nat_lt place end && nat_lt (8 * b + shift) end) && nat_lt place (8 * b + shift + 8) then Free
    else Whole shift region offset

-- Returns the join of what is known of a block on two paths: the pointer, if it is stored there on both.
abbrev pub joined_spill : Spill → Spill → Spill
joined_spill Free b = Free
joined_spill (Whole shift region offset) Free = Free
joined_spill (Whole shift region offset) (Whole other_shift other_region other_offset) =
    if (shift == other_shift) && is_same_region region other_region && int_eq offset other_offset
    then Whole shift region offset else Free

-- Returns the pointer of a block, if it begins at cell `at` of the block.
abbrev pub pointer_of : ℕ → Spill → Option (Region × ℤ)
pointer_of at Free = None
pointer_of at (Whole shift region offset) = if shift == at then Some (region, offset) else None
