-- Laws of the encoding of instructions and programs.
use Rattle.std.specs.Prelude.{ℕ, ◌≡◌, List}
use Rattle.insn.specs.declared.insn.Insn.{Insn}
use Rattle.insn.specs.Insn.{IsInsn}
use Rattle.codec.specs.declared.fault.CodecFault.{CodecFault}
use Rattle.codec.specs.Spelling.{spelling}
use Rattle.codec.specs.Program.{SpellsProgram, IsFirstFault}

-- States that two different well-formed instructions never have the same encoding.
abbrev pub OneInstruction : Type 0
OneInstruction = (a b : Insn) → IsInsn a → IsInsn b → spelling a ≡ spelling b → a ≡ b

-- States that bytes encode at most one program.
abbrev pub OneProgram : Type 0
OneProgram = (bytes : List ℕ) (p q : List Insn) → SpellsProgram bytes p → SpellsProgram bytes q → p ≡ q

-- States that a program has at most one encoding.
abbrev pub OneSpelling : Type 0
OneSpelling = (a b : List ℕ) (program : List Insn) → SpellsProgram a program → SpellsProgram b program → a ≡ b

-- States that bytes have at most one first fault.
abbrev pub OneFirstFault : Type 0
OneFirstFault =
    (bytes : List ℕ) (f g : CodecFault) (u v : ℕ) → IsFirstFault bytes f u → IsFirstFault bytes g v → (f ≡ g) × (u ≡ v)

-- States that bytes that encode a program have no first fault.
abbrev pub NoFaultInPrograms : Type 0
NoFaultInPrograms = (bytes : List ℕ) (program : List Insn) (fault : CodecFault) (unit : ℕ) → SpellsProgram bytes program →
    IsFirstFault bytes fault unit → ⊥
