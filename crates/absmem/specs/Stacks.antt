-- Defines what is known of a stack after a store or a join, as functions of what was known (own).
use Rattle.std.specs.Prelude.{ℕ, ℤ, ◌+◌, ◌/◌, ◌%◌, ◌==◌, ◌&&◌, Bool, true, false, nat_le, nat_lt, if◌then◌else◌}
use Rattle.semantics.specs.Limits.{stack_size}
use Rattle.semantics.specs.declared.value.Region.{Region}
use Rattle.absmem.specs.declared.spill.Spill.{Spill}
use Rattle.absmem.specs.declared.spill.Spill.TheVariants.{Free, Whole}
use Rattle.absmem.specs.Known.{Known, byte_at, spill_at, left_of, joined_spill}
use Rattle.absmem.specs.Tables.{table}

-- Returns the abstract stack in which `byte` says of each cell, and `spill` of each block, what is known.
abbrev pub stack_of : (ℕ → Bool) → (ℕ → Spill) → Known
stack_of byte spill = record { bytes = table stack_size byte; spills = table 64 spill }

-- The abstract stack with which nothing is known.
abbrev pub unknown_stack : Known
unknown_stack = stack_of (λ k. false) (λ b. Free)

-- Returns whether cell `k` is known to be a byte after this has become `value` for the cells from `place` up to but not
-- including `end`.
abbrev pub byte_behind : Bool → ℕ → ℕ → Known → ℕ → Bool
byte_behind value place end known k = if nat_le place k && nat_lt k end then value else byte_at known.bytes k

-- Returns what is known of block `b` after the cells from `place` up to but not including `end` are written: a pointer
-- with a piece in these cells is forgotten.
abbrev pub spill_behind : ℕ → ℕ → Known → ℕ → Spill
spill_behind place end known b = left_of place end b (spill_at known.spills b)

-- Returns what is known after bytes are stored in the `size` cells from `place` on.
abbrev pub put_bytes : ℕ → ℕ → Known → Known
put_bytes place size known =
    stack_of (byte_behind true place (place + size) known) (spill_behind place (place + size) known)

-- Returns what is known after bytes are stored in some of the `size` cells from `place` on, when it is not known in
-- which. Stored pointers there are forgotten, and no further cell becomes known to be a byte.
abbrev pub spread_bytes : ℕ → ℕ → Known → Known
spread_bytes place size known = stack_of (byte_at known.bytes) (spill_behind place (place + size) known)

-- Returns what is known after a pointer is stored in the 8 cells from `place` on.
abbrev pub put_pointer : ℕ → Region → ℤ → Known → Known
put_pointer place region offset known =
    stack_of (byte_behind false place (place + 8) known)
    (λ b. if b == place / 8 then Whole (place % 8) region offset else spill_behind place (place + 8) known b)

-- Returns the join of what is known on two paths: what is true on both.
abbrev pub joined_stack : Known → Known → Known
joined_stack one other =
    stack_of (λ k. byte_at one.bytes k && byte_at other.bytes k)
    (λ b. joined_spill (spill_at one.spills b) (spill_at other.spills b))
