-- Defines a word whose bits say in which of the 64 blocks a pointer is known to begin.
use Rattle.std.specs.Prelude.{ℕ, ◌^◌, ◌<◌, ◌≡◌, Bool, true, false, if◌then◌else◌, List, length}
use Rattle.std.specs.Int.{bit_at}
use Rattle.absmem.specs.declared.spill.Spill.{Spill}
use Rattle.absmem.specs.declared.spill.Spill.TheVariants.{Free, Whole}
use Rattle.absmem.specs.Known.{spill_at}

-- Checks whether a pointer is known to begin in a block.
abbrev pub holds_pointer : Spill → Bool
holds_pointer Free = false
holds_pointer (Whole shift region offset) = true

-- States that there are 64 blocks, and that bit b of the word is set exactly if a pointer is known to begin in block b.
pub record IsHolding (word : ℕ) (spills : List Spill) : Type 0 where
  pub small : word < 2 ^ 64
  pub blocks : length spills ≡ 64
  pub each : (b : ℕ) → b < 64 → bit_at word b ≡ (if holds_pointer (spill_at spills b) then 1 else 0)
