-- Defines the faults of a program's structure: a jump that does not lead forward to an instruction, or a last
-- instruction that is not the exit (own).
use Rattle.std.specs.Prelude.{ℕ, ℤ, zero, suc, pos, negsuc, ◌+◌, ◌+ℤ◌, Bool, true, false, nat_le, if◌then◌else◌, List, [], ◌∷◌, ◌++◌, length, Option, Some, None, is_none, IsSome}
use Rattle.insn.specs.declared.insn.Insn.{Insn}
use Rattle.insn.specs.declared.insn.Insn.TheVariants.{Jump, LongJump, Branch, Exit}
use Rattle.insn.specs.Insn.{units_of}
use Rattle.insn.specs.Program.{slots_of, instruction_at}
use Rattle.verify.specs.declared.error.VerifyError.{VerifyError}
use Rattle.verify.specs.declared.error.VerifyError.TheVariants.{At, Memory}
use Rattle.verify.specs.declared.reason.Reason.{Reason}
use Rattle.verify.specs.declared.reason.Reason.TheVariants.{BackJump, JumpOut, JumpInWide, LastNotExit}

-- A check: a test, and the fault of the program if the test holds.
abbrev pub Check : Type 0
Check = Bool × VerifyError

-- Returns the fault of the first check whose test holds.
abbrev pub first_fault : List Check → Option VerifyError
first_fault [] = None
first_fault (check ∷ checks) = if check.0 then Some check.1 else first_fault checks

-- Returns the checks of a jump from `unit` to a target. The target must be a greater unit within the program, at which
-- an instruction starts.
abbrev pub target_checks : List Insn → ℕ → ℤ → List Check
target_checks program unit (negsuc n) = (true, At BackJump unit) ∷ []
target_checks program unit (pos target) =
    (nat_le target unit, At BackJump unit)
    ∷ (nat_le (length (slots_of program)) target, At JumpOut unit)
    ∷ (is_none (instruction_at program target), At JumpInWide unit)
    ∷ []

-- Returns the checks of the instruction at `unit`. A jump counts units from the next instruction (RFC 9669, section
-- 4.3).
abbrev pub jump_checks : List Insn → ℕ → Insn → List Check
jump_checks program unit (Jump distance) = target_checks program unit (pos (unit + 1) +ℤ distance)
jump_checks program unit (LongJump distance) = target_checks program unit (pos (unit + 1) +ℤ distance)
jump_checks program unit (Branch width condition dst operand distance) =
    target_checks program unit (pos (unit + 1) +ℤ distance)
jump_checks program unit _ = []

-- Returns the checks of these instructions, in order. The first one starts at `unit`.
abbrev pub checks_from : List Insn → ℕ → List Insn → List Check
checks_from program unit [] = []
checks_from program unit (i ∷ is) = jump_checks program unit i ++ checks_from program (unit + units_of i) is

-- Returns the checks of the instruction with this index. The first instruction starts at `unit`.
abbrev pub checks_at : List Insn → ℕ → List Insn → ℕ → List Check
checks_at program unit [] index = []
checks_at program unit (i ∷ is) zero = jump_checks program unit i
checks_at program unit (i ∷ is) (suc index) = checks_at program (unit + units_of i) is index

-- Checks whether an instruction is the exit.
abbrev pub is_exit : Insn → Bool
is_exit Exit = true
is_exit _ = false

-- Returns the check that the last of these instructions is the exit. The first one starts at `unit`.
abbrev pub last_checks : ℕ → List Insn → List Check
last_checks unit [] = []
last_checks unit (i ∷ []) = (if is_exit i then false else true, At LastNotExit unit) ∷ []
last_checks unit (i ∷ j ∷ is) = last_checks (unit + units_of i) (j ∷ is)

-- Returns the structural fault of a program: that of its first jump at fault, or else that its last instruction is not
-- the exit.
abbrev pub structural_fault : List Insn → Option VerifyError
structural_fault program = first_fault (checks_from program 0 program ++ last_checks 0 program)

-- States that the reason is found by the pass, and not in the structure.
abbrev pub IsOwn : Reason → Type 0
IsOwn BackJump = ⊥
IsOwn JumpOut = ⊥
IsOwn JumpInWide = ⊥
IsOwn LastNotExit = ⊥
IsOwn reason = Unit {0}

-- States that the fault is not one of the structure, and that it is at an instruction or is `Memory`.
abbrev pub IsOwnFault : List Insn → VerifyError → Type 0
IsOwnFault program (At reason unit) = IsOwn reason × IsSome (instruction_at program unit)
IsOwnFault program Memory = Unit {0}
