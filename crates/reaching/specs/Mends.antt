-- Defines small changes of a program at one instruction, and how far the verifier comes in the changed program (own).
use Rattle.std.specs.Prelude.{ℕ, ℤ, pos, ◌≡◌, ◌≢◌, ◌+◌, ◌+ℤ◌, ◌==◌, ◌&&◌, nat_lt, nat_le, int_lt, if◌then◌else◌, List, [], ◌∷◌, ◌++◌, Option, Some, None, Result, Ok, Err, length}
use Rattle.std.specs.declared.alloc.AllocError.{AllocError}
use Rattle.word.specs.declared.Width.TheVariants.{W64}
use Rattle.word.specs.declared.Operation.{Operation}
use Rattle.word.specs.declared.Operation.TheVariants.{Add, And, Move}
use Rattle.insn.specs.declared.insn.Insn.{Insn}
use Rattle.insn.specs.declared.insn.Operand.{Operand}
use Rattle.insn.specs.declared.insn.Operand.TheVariants.{Register, Immediate}
use Rattle.insn.specs.declared.insn.Insn.TheVariants.{Arithmetic, Jump, LongJump, Branch}
use Rattle.insn.specs.Insn.{units_of}
use Rattle.insn.specs.Program.{slots_of, most_units}
use Rattle.verify.specs.declared.error.VerifyError.{VerifyError}
use Rattle.verify.specs.declared.error.VerifyError.TheVariants.{At, Memory}
use Rattle.verify.specs.Judgement.{judged}
use Rattle.reaching.specs.declared.edits.Edit.{Edit}
use Rattle.reaching.specs.declared.edits.Edit.TheVariants.{Before, Instead, Moved}
use Rattle.reaching.specs.declared.edits.Trial.{Trial}
use Rattle.reaching.specs.declared.edits.Trial.TheVariants.{Refused, Passes, Accepted}

-- Returns by how many units a change makes a program longer, 0 to 2.
abbrev pub grown : Edit → ℕ
grown (Before operation dst operand) = 1
grown (Instead operation dst operand) = 0
grown (Moved None number pointer) = 1
grown (Moved (Some mask) number pointer) = 2

-- Returns the new distance of a jump at `unit` after `more` units are inserted at `place`: greater by `more` if the
-- jump leads over `place`. A distance of 4,096 units or more, which no program allows, is not changed.
abbrev pub longer : ℕ → ℕ → ℕ → ℤ → ℤ
longer more place unit distance =
    if int_lt (pos place) (pos (unit + 1) +ℤ distance) && int_lt distance (pos most_units) then distance +ℤ pos more
    else distance

-- Returns the instruction at `unit` after `more` units are inserted at `place`. If it is a jump over `place`, its
-- distance is greater by `more`.
abbrev pub stretched : ℕ → ℕ → ℕ → Insn → Insn
stretched more place unit (Jump distance) = Jump (longer more place unit distance)
stretched more place unit (LongJump distance) = LongJump (longer more place unit distance)
stretched more place unit (Branch w condition dst operand distance) =
    Branch w condition dst operand (longer more place unit distance)
stretched more place unit i = i

-- Returns the instruction for a 64-bit operation on a register and an operand.
abbrev pub wide : Operation → ℕ → Operand → Insn
wide operation dst operand = Arithmetic W64 operation dst operand

-- Returns the instruction that applies a mask to the number in a register, or no instruction if there is no mask.
abbrev pub masked : Option ℤ → ℕ → List Insn
masked None number = []
masked (Some mask) number = wide And number (Immediate mask) ∷ []

-- Returns the instructions that replace an instruction when a program is changed there.
abbrev pub put_at : Edit → Insn → List Insn
put_at (Before operation dst operand) i = wide operation dst operand ∷ i ∷ []
put_at (Instead operation dst operand) i = wide operation dst operand ∷ []
put_at (Moved mask number pointer) i =
    masked mask number ++ wide Add pointer (Register number) ∷ wide Move number (Register pointer) ∷ []

-- Returns the instruction at `unit` in a program that is changed at another unit, `place`. A jump over `place` becomes
-- longer by the units that the change inserts.
abbrev pub passed : Edit → ℕ → ℕ → Insn → Insn
passed edit place unit i = if nat_lt unit place then stretched (grown edit) place unit i else i

-- Returns the instructions that replace the instruction at `unit` when a program is changed at `place`.
abbrev pub edited : Edit → ℕ → ℕ → Insn → List Insn
edited edit place unit i = if unit == place then put_at edit i else passed edit place unit i ∷ []

-- Returns the instructions of a program from `unit` on, after a change at `place`.
abbrev pub mended : Edit → ℕ → ℕ → List Insn → List Insn
mended edit place unit [] = []
mended edit place unit (i ∷ is) = edited edit place unit i ++ mended edit place (unit + units_of i) is

-- Returns how far the verifier comes, compared with `unit`, in a program with this first fault: it rejects the program
-- at `unit` or earlier, rejects it later, or accepts it because there is no fault.
abbrev pub comes : ℕ → Option VerifyError → Trial
comes unit None = Accepted
comes unit (Some (At reason place)) = if nat_lt unit place then Passes else Refused
comes unit (Some Memory) = Refused

-- States that the result says correctly how far the verifier came, from the error that it returned. The result is an
-- error exactly if the verifier ran out of memory.
abbrev pub ComesBy : ℕ → VerifyError → Result Trial AllocError → Type 0
ComesBy unit fault (Ok trial) = (fault ≢ Memory) × (trial ≡ comes unit (Some fault))
ComesBy unit fault (Err _) = fault ≡ Memory

-- Returns how far the verifier comes, compared with `unit`, in a changed program. If the program has no units, or more
-- than a program may have, it counts as rejected at `unit`.
abbrev pub tried_with : List Insn → ℕ → Trial
tried_with program unit =
    if nat_lt 0 (length (slots_of program)) && nat_le (length (slots_of program)) most_units
    then comes unit (judged program) else Refused

-- Returns how far the verifier comes, compared with `unit`, in a program that is changed at `place`.
abbrev pub tried : Edit → ℕ → List Insn → ℕ → Trial
tried edit place program unit = tried_with (mended edit place 0 program) unit
