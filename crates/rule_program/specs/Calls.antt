-- The calls of a program. A program without calls can be a rule of combination (own).
use Rattle.std.specs.Prelude.{ℕ, ◌<◌, ◌≡◌, Bool, true, false, List, Option, None, Some}
use Rattle.insn.specs.declared.insn.Insn.{Insn}
use Rattle.insn.specs.declared.insn.Insn.TheVariants.{Call}
use Rattle.insn.specs.Program.{instruction_at}
use Rattle.semantics.specs.Run.{IsSound}

-- Returns whether an instruction is a call.
abbrev pub is_call : Insn → Bool
is_call (Call helper) = true
is_call _ = false

-- Returns whether there is an instruction that is a call.
abbrev pub has_call : Option Insn → Bool
has_call None = false
has_call (Some insn) = is_call insn

-- Returns whether a call starts at a unit of the program.
abbrev pub is_call_at : List Insn → ℕ → Bool
is_call_at program unit = has_call (instruction_at program unit)

-- States that the first call of the program starts at this unit.
pub record IsFirstCall (program : List Insn) (unit : ℕ) : Type 0 where
  pub call : is_call_at program unit ≡ true
  pub first : (earlier : ℕ) → earlier < unit → is_call_at program earlier ≡ false

-- States that a program is a rule program: it is sound, and calls no helper.
pub record IsRuleProgram (program : List Insn) : Type 0 where
  pub sound : IsSound program
  pub callless : (unit : ℕ) → is_call_at program unit ≡ false
