-- Defines which helpers a program may call. The C program gives a mask, in which bit n is set if helper n is allowed.
use Rattle.std.specs.Prelude.{ℕ, ◌≡◌, ◌<◌, ◌==◌, ◌&&◌, nat_lt, Bool, true, false, List, Option, None, Some, IfSome}
use Rattle.std.specs.Int.{w32, bit_at, cast_unsigned}
use Rattle.insn.specs.declared.insn.Insn.{Insn}
use Rattle.insn.specs.declared.insn.Insn.TheVariants.{Call}
use Rattle.insn.specs.Program.{instruction_at}
use Rattle.codec.specs.Program.{SpellsProgram}
use Rattle.verify.specs.Judgement.{judged}

-- Checks whether the mask allows the helper with this number: whether bit `number` is set. A number above 63 is never
-- allowed.
abbrev pub is_allowed : ℕ → ℕ → Bool
is_allowed mask number = nat_lt number 64 && (bit_at mask number == 1)

-- Returns the number of the helper that an instruction calls: the 32 bits of its immediate. Returns `None` if it is not
-- a call.
abbrev pub number_called : Insn → Option ℕ
number_called (Call helper) = Some (cast_unsigned w32 helper)
number_called _ = None

-- Returns the number of the helper that the instruction at a unit calls. Returns `None` if there is no instruction, or
-- if it is not a call.
abbrev pub called_by : Option Insn → Option ℕ
called_by None = None
called_by (Some i) = number_called i

-- States that the instruction at this unit calls no helper, or one that the mask allows.
abbrev pub IsAllowedAt : ℕ → List Insn → ℕ → Type 0
IsAllowedAt mask program unit =
    IfSome (called_by (instruction_at program unit)) (λ number. is_allowed mask number ≡ true)

-- States that the program's first call of a helper that the mask does not allow is at this unit, and that the helper
-- has this number.
pub record IsFirstForbidden (mask : ℕ) (program : List Insn) (number unit : ℕ) : Type 0 where
  pub calls : called_by (instruction_at program unit) ≡ Some number
  pub forbidden : is_allowed mask number ≡ false
  pub first : (earlier : ℕ) → earlier < unit → IsAllowedAt mask program earlier

-- States that the bytes are the bytecode of a program that calls only helpers that the mask allows.
pub record IsAllowed (bytes : List ℕ) (mask : ℕ) : Type 0 where
  pub program : List Insn
  pub spelt : SpellsProgram bytes program
  pub each : (unit : ℕ) → IsAllowedAt mask program unit

-- States that the bytes are the bytecode of an accepted program. Its first call of a helper that the mask does not
-- allow is at this unit, and the helper has this number.
pub record IsForbidden (bytes : List ℕ) (mask number unit : ℕ) : Type 0 where
  pub program : List Insn
  pub spelt : SpellsProgram bytes program
  pub accepted : judged program ≡ None
  pub first : IsFirstForbidden mask program number unit
