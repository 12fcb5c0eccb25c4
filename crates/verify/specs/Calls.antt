-- Defines which calls of helpers the verifier rejects, from what is known of the arguments, and what is known of the
-- registers after a call (own).
use Rattle.std.specs.Prelude.{ℕ, ℤ, pos, ◌+◌, ◌*◌, ◌<◌, ◌&&◌, not, nat_lt, Bool, true, false, List, [], ◌∷◌, Option, Some, None, Result, Ok, Err, drop}
use Rattle.std.specs.Option.{option_or}
use Rattle.std.specs.Ordering.{int_eq}
use Rattle.semantics.specs.Limits.{board_words}
use Rattle.semantics.specs.declared.value.Region.{Region}
use Rattle.semantics.specs.declared.request.Helper.{Helper}
use Rattle.semantics.specs.declared.request.Helper.TheVariants.{BoardCopy, SendRow}
use Rattle.semantics.specs.Call.{helper_of}
use Rattle.absval.specs.declared.value.Offsets.{Offsets}
use Rattle.absval.specs.declared.number_set.NumberSet.{NumberSet}
use Rattle.absval.specs.NumberSets.{greatest, is_one}
use Rattle.absval.specs.declared.value.AbsVal.{AbsVal}
use Rattle.absval.specs.declared.windows.Window.{Window}
use Rattle.absval.specs.Windows.{window_known}
use Rattle.absmem.specs.Known.{Known}
use Rattle.helper.specs.declared.argument.Argument.{Argument}
use Rattle.helper.specs.Table.{bound_of, arguments_of}
use Rattle.verify.specs.Registers.{known_at}
use Rattle.verify.specs.MemoryTable.{unset_in, write_refused}
use Rattle.verify.specs.declared.reason.Reason.{Reason}
use Rattle.verify.specs.declared.reason.Reason.TheVariants as reason
use Rattle.verify.specs.declared.state.AbsState.{AbsState}
use Rattle.absval.specs.declared.value.AbsVal.TheVariants.{Unset, Number, Pointer}

-- Returns a check's result: an error with the reason if there is one, and otherwise success.
abbrev pub answer_of : Option Reason → Result (Unit {0}) Reason
answer_of None = Ok tt
answer_of (Some reason) = Err reason

-- Returns the reason if the test holds.
abbrev pub reason_if : Bool → Reason → Option Reason
reason_if true reason = Some reason
reason_if false reason = None

-- ---- Arguments

-- Returns why a value is rejected as an argument. With a bound, every number that it may be must be below the bound.
-- Without one, it must be a pointer.
abbrev pub argument_reason : Option ℕ → AbsVal → Option Reason
argument_reason bound Unset = Some reason.Unset
argument_reason (Some bound) (Number numbers) = reason_if (not (nat_lt (greatest numbers) bound)) reason.Argument
argument_reason (Some bound) (Pointer region offsets) = Some reason.Argument
argument_reason None (Number numbers) = Some reason.Argument
argument_reason None (Pointer region offsets) = None

-- Returns why the value of a register is rejected, if the helper takes an argument there.
abbrev pub taken_reason : Option Argument → AbsVal → Option Reason
taken_reason None value = None
taken_reason (Some argument) value = argument_reason (bound_of argument) value

-- Returns why the first rejected argument is rejected. The arguments are in the registers from `r` on.
abbrev pub arguments_reason : List (Option Argument) → ℕ → List AbsVal → Option Reason
arguments_reason [] r known = None
arguments_reason (argument ∷ arguments) r known =
    option_or (taken_reason argument (known_at known r)) (arguments_reason arguments (r + 1) known)

-- States that the value is a number below the bound.
abbrev pub IsBelow : ℕ → AbsVal → Type 0
IsBelow bound Unset = ⊥
IsBelow bound (Number numbers) = greatest numbers < bound
IsBelow bound (Pointer region offsets) = ⊥

-- States that the value is a pointer.
abbrev pub IsPointer : AbsVal → Type 0
IsPointer Unset = ⊥
IsPointer (Number numbers) = ⊥
IsPointer (Pointer region offsets) = Unit {0}

-- ---- Windows

-- Returns the window of `size` bytes at a pointer: the cells that they may take, if all are in its region.
abbrev pub window_from : Region → Offsets → ℕ → Option Window
window_from region offsets size = window_known region offsets.0 offsets.1 (pos 0) size

-- Returns why a window may not be read as bytes.
abbrev pub source_reason : Known → Region → Option Window → Option Reason
source_reason known region None = Some reason.Bounds
source_reason known region (Some window) = unset_in known region window

-- Returns why words of the board may not be copied to the stack: they must be on the board, and their window in the
-- stack.
abbrev pub copy_reason : AbsVal → AbsVal → AbsVal → Option Reason
copy_reason (Number slots) (Pointer region offsets) (Number counts) =
    option_or (reason_if (nat_lt board_words (greatest slots + greatest counts)) reason.Argument)
    (write_refused region (window_from region offsets (8 * greatest counts)))
copy_reason _ _ _ = None

-- Returns why orders may not be read at a pointer: their window must be in its region, with bytes in all cells.
abbrev pub row_reason : Known → AbsVal → AbsVal → Option Reason
row_reason known (Pointer region offsets) (Number counts) =
    source_reason known region (window_from region offsets (4 * greatest counts))
row_reason known _ _ = None

-- Returns why the memory at a helper's pointer is rejected, if the helper accesses memory.
abbrev pub window_reason : Helper → AbsState → Option Reason
window_reason BoardCopy a = copy_reason (known_at a.registers 1) (known_at a.registers 2) (known_at a.registers 3)
window_reason SendRow a = row_reason a.stack (known_at a.registers 2) (known_at a.registers 3)
window_reason _ a = None

-- ---- Calls

-- Returns why a call of a helper is rejected, also if there is no such helper.
abbrev pub helper_reason : Option Helper → AbsState → Option Reason
helper_reason None a = Some reason.Helper
helper_reason (Some helper) a =
    option_or (arguments_reason (arguments_of helper) 1 a.registers) (window_reason helper a)

-- Returns why a call of the helper with this number is rejected. The number is checked first, then the arguments in
-- order, then the memory at the pointer.
abbrev pub call_reason : AbsState → ℤ → Option Reason
call_reason a number = helper_reason (helper_of number) a

-- ---- States after calls

-- Returns what is known of the registers after a call: r0 is one of the numbers, and nothing is known of r1 to r5. The
-- others are unchanged.
abbrev pub known_behind : NumberSet → List AbsVal → List AbsVal
known_behind numbers known = Number numbers ∷ Unset ∷ Unset ∷ Unset ∷ Unset ∷ Unset ∷ drop 6 known

-- Checks whether the pointer has only one possible offset, and the count is only one number.
abbrev pub is_certain : Offsets → NumberSet → Bool
is_certain offsets counts = int_eq offsets.0 offsets.1 && is_one counts
