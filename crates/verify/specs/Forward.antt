-- Defines programs whose every edge leads forward to an instruction. An edge is a way from an instruction to the next
-- one (own).
use Rattle.std.specs.Prelude.{ℕ, ℤ, pos, ◌≡◌, ◌<ℤ◌, List, Some}
use Rattle.insn.specs.declared.insn.Insn.{Insn}
use Rattle.insn.specs.Program.{instruction_at}
use Rattle.semantics.specs.Plain.{IsIn, leads_to, IsStart}

-- States that each unit to which the instruction may lead is after its own unit, and that an instruction starts there.
abbrev pub LeadsForward : List Insn → ℕ → Insn → Type 0
LeadsForward program unit i = (z : ℤ) → IsIn z (leads_to i unit) → (pos unit <ℤ z) × IsStart program z

-- States that each edge of the program leads forward to an instruction.
pub record IsForward (program : List Insn) : Type 0 where
  pub edges : (unit : ℕ) (i : Insn) → instruction_at program unit ≡ Some i → LeadsForward program unit i
