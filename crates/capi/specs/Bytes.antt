-- Defines whether bytes are the bytecode of a program, and which fault they have (own; the bytes as in RFC 9669, 3).
use Rattle.std.specs.Prelude.{ℕ, ◌≡◌, List, None, Some}
use Rattle.insn.specs.declared.insn.Insn.{Insn}
use Rattle.codec.specs.declared.fault.CodecFault.{CodecFault}
use Rattle.codec.specs.Program.{SpellsProgram, IsFirstFault}
use Rattle.semantics.specs.Run.{IsSound}
use Rattle.verify.specs.declared.reason.Reason.{Reason}
use Rattle.verify.specs.declared.error.VerifyError.TheVariants.{At}
use Rattle.verify.specs.Judgement.{judged}
use Rattle.capi.specs.Numbers.{fault_number, reason_number}

-- States that the bytes are the bytecode of a program.
pub record IsProgram (bytes : List ℕ) : Type 0 where
  pub program : List Insn
  pub spelt : SpellsProgram bytes program

-- States that the bytes are the bytecode of a program that the verifier accepts.
pub record IsAccepted (bytes : List ℕ) : Type 0 where
  pub program : List Insn
  pub spelt : SpellsProgram bytes program
  pub accepted : judged program ≡ None

-- States that the bytes are the bytecode of a sound program.
pub record IsSoundProgram (bytes : List ℕ) : Type 0 where
  pub program : List Insn
  pub spelt : SpellsProgram bytes program
  pub sound : IsSound program

-- States that the bytes are not the bytecode of a program. Their first fault has this number and is at this unit.
pub record IsMisspelt (bytes : List ℕ) (number unit : ℕ) : Type 0 where
  pub fault : CodecFault
  pub first : IsFirstFault bytes fault unit
  pub numbered : number ≡ fault_number fault

-- States that the bytes are the bytecode of a program that the verifier rejects. The reason has this number, and the
-- verifier stopped at this unit.
pub record IsRefused (bytes : List ℕ) (number unit : ℕ) : Type 0 where
  pub program : List Insn
  pub reason : Reason
  pub spelt : SpellsProgram bytes program
  pub refused : judged program ≡ Some (At reason unit)
  pub numbered : number ≡ reason_number reason
