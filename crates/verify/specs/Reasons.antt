-- Defines the verifier's checks of an instruction, in order (own).
use Rattle.std.specs.Prelude.{ℕ, ◌==◌, Bool, true, false, if◌then◌else◌, List, [], ◌∷◌, Option, Some, None, Result, Ok, Err, is_none}
use Rattle.word.specs.declared.Width.{Width}
use Rattle.word.specs.declared.Operation.{Operation}
use Rattle.insn.specs.declared.insn.Operand.{Operand}
use Rattle.absval.specs.Table.{computed}
use Rattle.verify.specs.declared.reason.Reason.{Reason}
use Rattle.verify.specs.declared.reason.Reason.TheVariants as reason
use Rattle.verify.specs.declared.reason.Reason.TheVariants.{FrameWrite, PointerUse, ExitPointer}
use Rattle.verify.specs.Registers.{operand_known, first_known}
use Rattle.absval.specs.declared.value.AbsVal.TheVariants.{Unset, Number, Pointer}
use Rattle.absval.specs.declared.value.AbsVal.{AbsVal}

-- A check: a test, and the reason to reject the instruction if the test holds.
abbrev pub Check : Type 0
Check = Bool × Reason

-- Returns the reason of the first check whose test holds.
abbrev pub first_reason : List Check → Option Reason
first_reason [] = None
first_reason (check ∷ checks) = if check.0 then Some check.1 else first_reason checks

-- Checks whether a value may be unset.
abbrev pub is_unset : AbsVal → Bool
is_unset Unset = true
is_unset (Number n) = false
is_unset (Pointer region o) = false

-- Checks whether a value is a pointer.
abbrev pub is_pointer : AbsVal → Bool
is_pointer Unset = false
is_pointer (Number n) = false
is_pointer (Pointer region o) = true

-- Returns the checks of an instruction that sets `dst` to a result. The operand must be set, `dst` must not be r10, and
-- there must be a result.
abbrev pub made_checks : ℕ → AbsVal → Option AbsVal → List Check
made_checks dst value made = (is_unset value, reason.Unset) ∷ (dst == 10, FrameWrite) ∷ (is_none made, PointerUse) ∷ []

-- Returns the checks of an operation on a register and an operand.
abbrev pub arithmetic_checks : List AbsVal → Width → Operation → ℕ → Operand → List Check
arithmetic_checks known w operation dst operand =
    (is_unset (first_known known operation dst), reason.Unset)
    ∷ made_checks dst (operand_known known operand)
    (computed w operation (first_known known operation dst) (operand_known known operand))

-- Returns the check that the register to be written is not r10, the frame pointer.
abbrev pub write_checks : ℕ → List Check
write_checks dst = (dst == 10, FrameWrite) ∷ []

-- Returns the checks of a comparison: both values must be set, and must be numbers.
abbrev pub compare_checks : AbsVal → AbsVal → List Check
compare_checks a b = (is_unset a, reason.Unset) ∷ (is_unset b, reason.Unset) ∷ (is_pointer a, PointerUse) ∷
    (is_pointer b, PointerUse) ∷ []

-- Returns the checks of the exit: r0 must be a number.
abbrev pub exit_checks : AbsVal → List Check
exit_checks r0 = (is_unset r0, reason.Unset) ∷ (is_pointer r0, ExitPointer) ∷ []

-- Returns the reason if there is one, and otherwise `left`.
abbrev pub unless : {A : Type 0} → Option Reason → A → Result A Reason
unless None left = Ok left
unless (Some reason) left = Err reason

-- Returns what the code left, or the reason with which it failed.
abbrev pub outcome : {A : Type 0} → Result (Unit {0}) Reason → A → Result A Reason
outcome (Ok u) left = Ok left
outcome (Err reason) left = Err reason
