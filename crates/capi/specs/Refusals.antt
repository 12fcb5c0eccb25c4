-- Defines why bytecode is rejected, and which status C then receives.
use Rattle.std.specs.Prelude.{ℕ, ◌≡◌, List, Some}
use Rattle.insn.specs.declared.insn.Insn.{Insn}
use Rattle.codec.specs.Program.{SpellsProgram, IsFirstFault}
use Rattle.verify.specs.declared.reason.Reason.{Reason}
use Rattle.verify.specs.declared.error.VerifyError.TheVariants.{At}
use Rattle.verify.specs.Judgement.{judged}
use Rattle.capi.specs.Bytes.{IsProgram}
use Rattle.capi.specs.declared.refusal.BytecodeRefusal.{BytecodeRefusal}
use Rattle.capi.specs.declared.refusal.BytecodeRefusal.TheVariants as refusals

-- States that the bytes are the bytecode of a program that the verifier rejects for this reason, at this unit.
pub record IsJudged (bytes : List ℕ) (reason : Reason) (unit : ℕ) : Type 0 where
  pub program : List Insn
  pub spelt : SpellsProgram bytes program
  pub refused : judged program ≡ Some (At reason unit)

-- Returns the status that C receives for a refusal.
abbrev pub status_of : BytecodeRefusal → ℕ
status_of (refusals.Misspelt fault unit) = 1
status_of (refusals.Refused reason unit) = 2
status_of refusals.Memory = 3

-- States that the refusal is correct for these bytes. `Memory` is correct for any bytecode of a program.
abbrev pub Refuses : List ℕ → BytecodeRefusal → Type 0
Refuses bytes (refusals.Misspelt fault unit) = IsFirstFault bytes fault unit
Refuses bytes (refusals.Refused reason unit) = IsJudged bytes reason unit
Refuses bytes refusals.Memory = IsProgram bytes
