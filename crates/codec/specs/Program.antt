-- The bytes of a program, and the first fault of bytes that encode no program.
use Rattle.std.specs.Prelude.{ℕ, ◌≡◌, ◌≢◌, ◌≤◌, ◌<◌, ◌*◌, ◌/◌, ◌%◌, ◌⊎◌, List, Some, take, drop, length}
use Rattle.std.specs.List.{AllByRecursion}
use Rattle.insn.specs.declared.insn.Insn.{Insn}
use Rattle.insn.specs.Insn.{IsInsn}
use Rattle.insn.specs.Program.{most_units}
use Rattle.codec.specs.declared.fault.CodecFault.{CodecFault}
use Rattle.codec.specs.declared.fault.CodecFault.TheVariants as faults
use Rattle.codec.specs.declared.fault.CodecError.{CodecError}
use Rattle.codec.specs.declared.fault.CodecError.TheVariants as errors
use Rattle.codec.specs.Spelling.{program_bytes}
use Rattle.codec.specs.Reading.{fault_at}

-- States that the bytes encode the program, which has 1 to 4,096 units.
pub record SpellsProgram (bytes : List ℕ) (program : List Insn) : Type 0 where
  pub spelled : bytes ≡ program_bytes program
  pub well_formed : AllByRecursion IsInsn program
  pub some : 0 < length bytes
  pub bound : length bytes ≤ 8 * most_units

-- States that the units before this one encode well-formed instructions, and that the instruction at this unit has this
-- fault.
pub record IsFaultAt (bytes : List ℕ) (fault : CodecFault) (unit : ℕ) (before : List Insn) : Type 0 where
  pub spelled : take (8 * unit) bytes ≡ program_bytes before
  pub well_formed : AllByRecursion IsInsn before
  pub inside : 8 * unit < length bytes
  pub found : fault_at (drop (8 * unit) bytes) ≡ Some fault

-- States that this is the first fault of the bytes, and its unit. The length is checked first, then the number of
-- units, then the instructions in order.
pub record IsFirstFault (bytes : List ℕ) (fault : CodecFault) (unit : ℕ) : Type 0 where
  pub by_length : length bytes % 8 ≢ 0 → (fault ≡ faults.Length) × (unit ≡ length bytes / 8)
  pub by_count : length bytes % 8 ≡ 0 → (length bytes ≡ 0) ⊎ (8 * most_units < length bytes) →
      (fault ≡ faults.Count) × (unit ≡ 0)
  pub by_instruction : length bytes % 8 ≡ 0 → 0 < length bytes → length bytes ≤ 8 * most_units →
      (before : List Insn) × IsFaultAt bytes fault unit before

-- States that the error is the first fault, or out of memory.
abbrev pub IsAnswered : List ℕ → CodecError → Type 0
IsAnswered bytes (errors.At fault unit) = IsFirstFault bytes fault unit
IsAnswered bytes errors.Memory = Unit {0}
