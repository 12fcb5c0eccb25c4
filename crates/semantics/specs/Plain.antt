-- Defines plain programs: they compute with numbers only, jump only forward, and set each register before it is read
-- (own).
use Rattle.std.specs.Prelude.{ℕ, ℤ, pos, ◌+◌, ◌+ℤ◌, ◌<ℤ◌, ◌≡◌, List, [], ◌∷◌, ◌++◌, Some, ◌⊎◌, IsSome}
use Rattle.word.specs.declared.Operation.{Operation}
use Rattle.word.specs.declared.Operation.TheVariants.{Move}
use Rattle.insn.specs.declared.insn.Insn.{Insn}
use Rattle.insn.specs.declared.insn.Insn.TheVariants.{Arithmetic, Negate, SignExtend, Swap, LoadImmediate, Jump, LongJump, Branch, Load, LoadSigned, Store, Call, Exit}
use Rattle.insn.specs.declared.insn.Operand.{Operand}
use Rattle.insn.specs.declared.insn.Operand.TheVariants.{Register, Immediate}
use Rattle.insn.specs.Insn.{units_of}
use Rattle.insn.specs.Program.{instruction_at}

-- States that the list has the element.
abbrev pub IsIn : {A : Type 0} → A → List A → Type 0
IsIn x [] = ⊥
IsIn x (y ∷ ys) = (x ≡ y) ⊎ IsIn x ys

-- Returns the registers that an operand reads.
abbrev pub operand_reads : Operand → List ℕ
operand_reads (Register r) = r ∷ []
operand_reads (Immediate n) = []

-- Returns the registers that an operation reads as its first operand. A move reads none.
abbrev pub first_reads : Operation → ℕ → List ℕ
first_reads Move dst = []
first_reads _ dst = dst ∷ []

-- States that the instruction uses neither memory nor helpers.
abbrev pub IsOfNumbers : Insn → Type 0
IsOfNumbers (Load size dst base offset) = ⊥
IsOfNumbers (LoadSigned part dst base offset) = ⊥
IsOfNumbers (Store size base offset source) = ⊥
IsOfNumbers (Call helper) = ⊥
IsOfNumbers _ = Unit {0}

-- Returns the registers that an instruction reads, if it uses neither memory nor helpers.
abbrev pub reads : Insn → List ℕ
reads (Arithmetic width operation dst operand) = first_reads operation dst ++ operand_reads operand
reads (Negate width dst) = dst ∷ []
reads (SignExtend width part dst src) = src ∷ []
reads (Swap order size dst) = dst ∷ []
reads (Branch width condition dst operand distance) = dst ∷ operand_reads operand
reads Exit = 0 ∷ []
reads _ = []

-- Returns the registers that an instruction writes, if it uses neither memory nor helpers.
abbrev pub writes : Insn → List ℕ
writes (Arithmetic width operation dst operand) = dst ∷ []
writes (Negate width dst) = dst ∷ []
writes (SignExtend width part dst src) = dst ∷ []
writes (Swap order size dst) = dst ∷ []
writes (LoadImmediate dst number) = dst ∷ []
writes _ = []

-- Returns the units to which an instruction at this unit may lead.
abbrev pub leads_to : Insn → ℕ → List ℤ
leads_to (Jump distance) unit = (pos (unit + 1) +ℤ distance) ∷ []
leads_to (LongJump distance) unit = (pos (unit + 1) +ℤ distance) ∷ []
leads_to (Branch width condition dst operand distance) unit = pos (unit + 1) ∷ (pos (unit + 1) +ℤ distance) ∷ []
leads_to Exit unit = []
leads_to i unit = pos (unit + units_of i) ∷ []

-- States that some path from the entry to a unit does not write register `r`.
pub data Unwritten (program : List Insn) (r : ℕ) : ℕ → Type 0 where
  at_entry : Unwritten program r 0
  along : {unit : ℕ} (i : Insn) (next : ℕ) → Unwritten program r unit → instruction_at program unit ≡ Some i →
      (IsIn r (writes i) → ⊥) →
      IsIn (pos next) (leads_to i unit) → Unwritten program r next

-- States that an instruction starts at this unit.
abbrev pub IsStart : List Insn → ℤ → Type 0
IsStart program z = (unit : ℕ) × (z ≡ pos unit) × IsSome (instruction_at program unit)

-- States that the last instruction is the exit.
abbrev pub EndsWithExit : List Insn → Type 0
EndsWithExit [] = ⊥
EndsWithExit (i ∷ []) = i ≡ Exit
EndsWithExit (i ∷ j ∷ is) = EndsWithExit (j ∷ is)

-- States that the program is plain: it uses neither memory nor helpers, jumps only forward to instructions, sets each
-- register before it is read, never writes r10, and ends with the exit.
pub record IsPlain (program : List Insn) : Type 0 where
  pub exit_last : EndsWithExit program
  pub numbers : (unit : ℕ) (i : Insn) → instruction_at program unit ≡ Some i → IsOfNumbers i
  pub forward : (unit : ℕ) (i : Insn) (z : ℤ) → instruction_at program unit ≡ Some i → IsIn z (leads_to i unit) →
      (pos unit <ℤ z) × IsStart program z
  pub written_before : (unit r : ℕ) (i : Insn) → instruction_at program unit ≡ Some i → IsIn r (reads i) →
      Unwritten program r unit → ⊥
  pub frame_kept : (unit : ℕ) (i : Insn) → instruction_at program unit ≡ Some i → IsIn 10 (writes i) → ⊥
