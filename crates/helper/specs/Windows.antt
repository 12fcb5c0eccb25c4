-- Defines when a call traps, by the kinds of its arguments.
use Rattle.std.specs.Prelude.{ℕ, pos, ◌+◌, ◌*◌, ◌≡◌, nat_le, if◌then◌else◌, List, [], ◌∷◌, Option, Some, None}
use Rattle.semantics.specs.Limits.{board_words}
use Rattle.semantics.specs.Relay.{Relay}
use Rattle.semantics.specs.declared.value.Value.{Value}
use Rattle.semantics.specs.declared.value.Value.TheVariants.{Unset, Number, Pointer}
use Rattle.semantics.specs.declared.request.Helper.{Helper}
use Rattle.semantics.specs.State.{Cause, Argument as Refused, State, Outcome, Next, Ask, Exit, Trap, value_at, given}
use Rattle.semantics.specs.Memory.{cells_at, bytes_in, stack_place}
use Rattle.semantics.specs.Call.{called}
use Rattle.helper.specs.declared.argument.Argument.{Argument}
use Rattle.helper.specs.declared.argument.Argument.TheVariants.{Slot, Word, Label, Receiver, Words, Orders, Held, Receivers, StackPointer, ReadablePointer}
use Rattle.helper.specs.Table.{arguments_of, refusal, refused, or_else}

-- Returns the number that a value holds, or 0 if it holds none.
abbrev pub number_in : Value → ℕ
number_in Unset = 0
number_in (Number n) = n
number_in (Pointer region offset) = 0

-- Returns the number of bytes that a helper accesses for each item of this count: 8 for a word, and 4 for an order. It
-- is 0 for an argument that is not a count.
abbrev pub bytes_each : Argument → ℕ
bytes_each Slot = 0
bytes_each Word = 0
bytes_each Label = 0
bytes_each Receiver = 0
bytes_each Words = 8
bytes_each Orders = 4
bytes_each Held = 0
bytes_each Receivers = 0
bytes_each StackPointer = 0
bytes_each ReadablePointer = 0

-- Returns a cause unless the board has `count` words from a slot on.
abbrev pub refused_span : Argument → Argument → ℕ → ℕ → Option Cause
refused_span Slot Words slot count = if nat_le (slot + count) board_words then None else Some Refused
refused_span _ _ slot count = None

-- Returns why `size` bytes at a pointer may not be accessed. Bytes to write must be in the stack, and bytes to read
-- must be in the pointer's region and be bytes.
abbrev pub refused_window : Argument → List ℕ → State → Value → ℕ → Option Cause
refused_window StackPointer context s v size = refusal (stack_place v (pos 0) size)
refused_window ReadablePointer context s v size = refusal (given (cells_at context s.cells v (pos 0) size) bytes_in)
refused_window _ context s v size = None

-- Returns why three arguments, in r1 to r3, are not accepted together. First come the words from a slot on, and then
-- the memory at the second argument. The third argument is the number of items.
abbrev pub refused_together : List (Option Argument) → List ℕ → State → Option Cause
refused_together (Some first ∷ Some second ∷ Some third ∷ []) context s =
    or_else (refused_span first third (number_in (value_at s.registers 1)) (number_in (value_at s.registers 3)))
    (refused_window second context s (value_at s.registers 2) (bytes_each third * number_in (value_at s.registers 3)))
refused_together _ context s = None

-- Returns the cause of a trap, if the step traps.
abbrev pub trap_of : Outcome → Option Cause
trap_of (Next s) = None
trap_of (Ask request s) = None
trap_of (Exit r0 s) = None
trap_of (Trap cause) = Some cause

-- States that a call traps exactly if an argument is not accepted, or else if the arguments are not accepted together.
-- The first argument that is not accepted is the cause.
abbrev pub CallsTrapByTable : Type 0
CallsTrapByTable = (helper : Helper) (context : List ℕ) (relay : Relay) (s : State) →
    trap_of (called context relay s (Some helper))
    ≡ or_else (refused (arguments_of helper) 1 s.registers) (refused_together (arguments_of helper) context s)
