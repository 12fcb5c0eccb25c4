-- Defines the arguments that helpers accept, and the numbers that they return.
use Rattle.std.specs.Prelude.{ℕ, ◌+◌, ◌-◌, ◌^◌, ◌≡◌, List, [], ◌∷◌, Option, Some, None, Result, Ok, Err}
use Rattle.semantics.specs.Limits.{board_words, most_generals, most_held, most_labels, receiver_sets}
use Rattle.semantics.specs.Relay.{Relay}
use Rattle.semantics.specs.declared.value.Value.{Value}
use Rattle.semantics.specs.declared.request.Helper.{Helper}
use Rattle.semantics.specs.declared.request.Helper.TheVariants.{BoardGet, BoardSwap, BoardAdd, BoardCas, BoardCopy, Send, SendRow, Sway, Honest, SignOrder, PassOn}
use Rattle.semantics.specs.State.{Cause, State, Trap, value_at}
use Rattle.semantics.specs.Call.{below, pointer, called}
use Rattle.helper.specs.declared.argument.Argument.{Argument}
use Rattle.helper.specs.declared.argument.Argument.TheVariants.{Slot, Word, Label, Receiver, Words, Orders, Held, Receivers, StackPointer, ReadablePointer}

-- Returns the bound below which a number must be to be accepted as this argument. An argument that is a pointer has
-- none.
abbrev pub bound_of : Argument → Option ℕ
bound_of Slot = Some board_words
bound_of Word = Some (2 ^ 64)
bound_of Label = Some most_labels
bound_of Receiver = Some most_generals
bound_of Words = Some (board_words + 1)
bound_of Orders = Some (most_generals + 1)
bound_of Held = Some most_held
bound_of Receivers = Some receiver_sets
bound_of StackPointer = None
bound_of ReadablePointer = None

-- Returns the kinds of the arguments that a helper takes in r1, r2 and r3.
abbrev pub arguments_of : Helper → List (Option Argument)
arguments_of BoardGet = Some Slot ∷ None ∷ None ∷ []
arguments_of BoardSwap = Some Slot ∷ Some Word ∷ None ∷ []
arguments_of BoardAdd = Some Slot ∷ Some Word ∷ None ∷ []
arguments_of BoardCas = Some Slot ∷ Some Word ∷ Some Word ∷ []
arguments_of BoardCopy = Some Slot ∷ Some StackPointer ∷ Some Words ∷ []
arguments_of Send = Some Label ∷ Some Receiver ∷ Some Word ∷ []
arguments_of SendRow = Some Label ∷ Some ReadablePointer ∷ Some Orders ∷ []
arguments_of Sway = Some Receiver ∷ Some Word ∷ None ∷ []
arguments_of Honest = Some Receiver ∷ None ∷ None ∷ []
arguments_of SignOrder = Some Word ∷ Some Receivers ∷ None ∷ []
arguments_of PassOn = Some Held ∷ Some Receivers ∷ None ∷ []

-- Returns the least and the greatest number that a helper returns in r0.
abbrev pub returned_range : Helper → ℕ × ℕ
returned_range BoardGet = (0, 2 ^ 64 - 1)
returned_range BoardSwap = (0, 2 ^ 64 - 1)
returned_range BoardAdd = (0, 2 ^ 64 - 1)
returned_range BoardCas = (0, 2 ^ 64 - 1)
returned_range BoardCopy = (0, board_words)
returned_range Send = (0, 1)
returned_range SendRow = (0, most_generals)
returned_range Sway = (0, most_labels)
returned_range Honest = (0, most_labels)
returned_range SignOrder = (0, 1)
returned_range PassOn = (0, 1)

-- Returns the cause with which a result failed, if it failed.
abbrev pub refusal : {A : Type 0} → Result A Cause → Option Cause
refusal (Ok a) = None
refusal (Err cause) = Some cause

-- Returns why a value is not accepted as an argument: with a bound, it must be a number below the bound, and otherwise
-- a pointer.
abbrev pub test_of : Option ℕ → Value → Option Cause
test_of (Some bound) v = refusal (below bound v)
test_of None v = refusal (pointer v)

-- Returns the first cause if there is one, and otherwise the second.
abbrev pub or_else : Option Cause → Option Cause → Option Cause
or_else (Some cause) other = Some cause
or_else None other = other

-- Returns the cause for the first argument that is not accepted. The arguments are in the registers from `r` on.
abbrev pub refused : List (Option Argument) → ℕ → List Value → Option Cause
refused [] r registers = None
refused (None ∷ arguments) r registers = refused arguments (r + 1) registers
refused (Some argument ∷ arguments) r registers =
    or_else (test_of (bound_of argument) (value_at registers r)) (refused arguments (r + 1) registers)

-- States that a call of the helper traps if one of these arguments is not accepted. The first such argument is the
-- cause.
abbrev pub TestsThese : Helper → List (Option Argument) → Type 0
TestsThese helper arguments =
    (context : List ℕ) (relay : Relay) (s : State) (cause : Cause) → refused arguments 1 s.registers ≡ Some cause
    → called context relay s (Some helper) ≡ Trap cause

-- States that the helper accesses memory at a pointer.
abbrev pub HasWindow : Helper → Type 0
HasWindow BoardCopy = Unit {0}
HasWindow SendRow = Unit {0}
HasWindow _ = ⊥

-- States that if all these arguments are accepted, a call traps only if the helper accesses memory.
abbrev pub AcceptsThese : Helper → List (Option Argument) → Type 0
AcceptsThese helper arguments =
    (context : List ℕ) (relay : Relay) (s : State) (cause : Cause) → refused arguments 1 s.registers ≡ None
    → called context relay s (Some helper) ≡ Trap cause → HasWindow helper
