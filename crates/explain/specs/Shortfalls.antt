-- What is missing at a rejected instruction, computed from what is known there (own).
use Rattle.std.specs.Prelude.{ℕ, ℤ, pos, negsuc, zero, suc, ◌+◌, ◌*◌, ◌^◌, ◌-◌, ◌+ℤ◌, ◌-ℤ◌, ◌&&◌, nat_lt, nat_le, int_le, Bool, true, false, if◌then◌else◌, List, [], ◌∷◌, Option, Some, None, option_map, option_and_then}
use Rattle.std.specs.Option.{option_or}
use Rattle.semantics.specs.Limits.{board_words}
use Rattle.word.specs.declared.Width.{Width}
use Rattle.word.specs.declared.Width.TheVariants.{W64}
use Rattle.word.specs.declared.Operation.{Operation}
use Rattle.word.specs.declared.Operation.TheVariants.{Add, Sub}
use Rattle.insn.specs.declared.insn.Insn.{Insn}
use Rattle.insn.specs.declared.insn.Insn.TheVariants.{Arithmetic, Branch, Load, LoadSigned, Store, Call}
use Rattle.insn.specs.declared.insn.Operand.{Operand}
use Rattle.insn.specs.declared.insn.Size.{Size}
use Rattle.insn.specs.declared.insn.Size.TheVariants.{Word, Double}
use Rattle.insn.specs.Insn.{bytes_of, part_bytes}
use Rattle.semantics.specs.declared.value.Region.{Region}
use Rattle.semantics.specs.declared.value.Region.TheVariants.{Stack}
use Rattle.semantics.specs.declared.request.Helper.{Helper}
use Rattle.semantics.specs.declared.request.Helper.TheVariants.{BoardCopy, SendRow}
use Rattle.semantics.specs.Call.{helper_of}
use Rattle.absval.specs.NumberSets.{greatest}
use Rattle.absval.specs.declared.number_set.NumberSet.{NumberSet}
use Rattle.absval.specs.declared.value.Offsets.{Offsets}
use Rattle.absval.specs.declared.value.AbsVal.{AbsVal}
use Rattle.absval.specs.declared.value.AbsVal.TheVariants.{Unset, Number, Pointer}
use Rattle.absval.specs.declared.windows.Window.{Window}
use Rattle.absval.specs.Table.{in_a_row}
use Rattle.absval.specs.Windows.{window_known}
use Rattle.absmem.specs.Known.{Known, byte_at}
use Rattle.helper.specs.declared.argument.Argument.{Argument}
use Rattle.helper.specs.Table.{bound_of, arguments_of}
use Rattle.verify.specs.Registers.{known_at, operand_known}
use Rattle.verify.specs.declared.state.AbsState.{AbsState}
use Rattle.verify.specs.declared.reason.Reason.{Reason}
use Rattle.verify.specs.declared.reason.Reason.TheVariants as reason
use Rattle.explain.specs.declared.values.NumberSpan.{NumberSpan}
use Rattle.explain.specs.declared.reach.Reach.{Reach}
use Rattle.explain.specs.declared.sentence.Sentence.{Sentence}
use Rattle.explain.specs.declared.sentence.Sentence.TheVariants as sentence
use Rattle.explain.specs.declared.sentence.RegisterMisuse.TheVariants as misuse
use Rattle.explain.specs.declared.sentence.AccessMisuse.TheVariants as access
use Rattle.explain.specs.declared.sentence.Misfit.TheVariants as misfit
use Rattle.helper.specs.Reads.{of_operand, read_by}

-- ---- registers: the first register read that may be unset, or that is a pointer

-- Returns the sentence that says that a register may be unset, if the value says so.
abbrev pub unset_if : ℕ → AbsVal → Option Sentence
unset_if r Unset = Some (sentence.Register (misuse.Unset r))
unset_if r (Number n) = None
unset_if r (Pointer region offsets) = None

-- Returns the sentence that says that a register may be unset, if there is a register and it may.
abbrev pub unset_at : List AbsVal → Option ℕ → Option Sentence
unset_at registers None = None
unset_at registers (Some r) = unset_if r (known_at registers r)

-- Returns the sentence that says that a register may be unset, for the first such register.
abbrev pub first_unset : List AbsVal → List (Option ℕ) → Option Sentence
first_unset registers (first ∷ second ∷ third ∷ []) =
    option_or (unset_at registers first) (option_or (unset_at registers second) (unset_at registers third))
first_unset registers _ = None

-- Returns the sentence that says that an instruction must not compute with a pointer, if the value is a pointer.
abbrev pub pointer_if : ℕ → AbsVal → Option Sentence
pointer_if r Unset = None
pointer_if r (Number n) = None
pointer_if r (Pointer region offsets) = Some (sentence.Register (misuse.Computed r (Pointer region offsets)))

-- Returns the sentence that says that an instruction must not compute with a pointer, if there is a register and it
-- holds one.
abbrev pub pointer_at : List AbsVal → Option ℕ → Option Sentence
pointer_at registers None = None
pointer_at registers (Some r) = pointer_if r (known_at registers r)

-- Returns the sentence that says that an instruction must not compute with a pointer, for the first register that holds
-- one.
abbrev pub first_pointer : List AbsVal → List (Option ℕ) → Option Sentence
first_pointer registers (first ∷ second ∷ third ∷ []) =
    option_or (pointer_at registers first) (option_or (pointer_at registers second) (pointer_at registers third))
first_pointer registers _ = None

-- Returns the sentence that says that a pointer cannot be compared, if the value is a pointer.
abbrev pub compared_if : ℕ → AbsVal → Option Sentence
compared_if r Unset = None
compared_if r (Number n) = None
compared_if r (Pointer region offsets) = Some (sentence.Register (misuse.Compared r (Pointer region offsets)))

-- Returns the sentence that says that a pointer cannot be compared, if there is a register and it holds one.
abbrev pub compared_at : List AbsVal → Option ℕ → Option Sentence
compared_at registers None = None
compared_at registers (Some r) = compared_if r (known_at registers r)

-- ---- pointers that are moved

-- Returns whether the operation subtracts a number from a pointer, or nothing if it must not be used on pointers.
abbrev pub lowers : Width → Operation → Option Bool
lowers W64 Add = Some false
lowers W64 Sub = Some true
lowers _ _ = None

-- Returns the signed 64-bit number that is nearest to `z`.
abbrev pub clamped : ℤ → ℤ
clamped z =
    if int_le z (pos (2 ^ 63 - 1)) then (if int_le (negsuc (2 ^ 63 - 1)) z then z else negsuc (2 ^ 63 - 1))
    else pos (2 ^ 63 - 1)

-- Returns the least and the greatest offset after a pointer with the offsets `o` is moved by a number in the range
-- `by`. The flag says that the number is subtracted.
abbrev pub moved : Bool → Offsets → ℤ × ℤ → NumberSpan
moved false o by = record { low = clamped (o.0 +ℤ by.0); high = clamped (o.1 +ℤ by.1) }
moved true o by = record { low = clamped (o.0 -ℤ by.1); high = clamped (o.1 -ℤ by.0) }

-- Returns the sentence that says that a pointer cannot be moved by a number that may be above or below 0, if the number
-- is in a register.
abbrev pub either_sign : Option ℕ → NumberSet → Option Sentence
either_sign None n = None
either_sign (Some r) n = Some (sentence.Register (misuse.EitherSign r (Number n)))

-- Returns the sentence that says that a pointer cannot be moved by a number: the number may be above or below 0, or the
-- pointer would point too far.
abbrev pub far : Bool → ℕ → Region → Offsets → Operand → NumberSet → Option (ℤ × ℤ) → Option Sentence
far down dst region o operand n None = either_sign (of_operand operand) n
far down dst region o operand n (Some by) = Some (sentence.Register (misuse.Far dst region (moved down o by)))

-- Returns the sentence that says that a sum or difference of a pointer and a number is rejected.
abbrev pub sum_misuse : Option Bool → ℕ → Operand → AbsVal → AbsVal → Option Sentence
sum_misuse (Some down) dst operand (Pointer region o) (Number n) = far down dst region o operand n (in_a_row n.range)
sum_misuse _ dst operand a b = None

-- ---- pointers that are used in ways that are not allowed

-- Returns the sentence that says that the base register of an access holds no pointer.
abbrev pub no_base : List AbsVal → ℕ → Option Sentence
no_base registers base = Some (sentence.Register (misuse.NoBase base (known_at registers base)))

-- Returns the sentence that says that a pointer is not stored as a whole.
abbrev pub stored_at : List AbsVal → ℕ → Option ℕ → Option Sentence
stored_at registers base None = None
stored_at registers base (Some r) =
    Some (sentence.Register (misuse.Stored r (known_at registers r) base (known_at registers base)))

-- Returns the sentence that says that a store misuses a pointer: its base is none, or the stored pointer is not stored
-- as a whole.
abbrev pub store_misuse : List AbsVal → ℕ → Option ℕ → AbsVal → Option Sentence
store_misuse registers base source (Pointer region o) = stored_at registers base source
store_misuse registers base source _ = no_base registers base

-- Returns the sentence that says that an instruction misuses a pointer.
abbrev pub pointer_misuse : Insn → List AbsVal → Option Sentence
pointer_misuse (Arithmetic w operation dst operand) registers =
    option_or (sum_misuse (lowers w operation) dst operand (known_at registers dst) (operand_known registers operand))
    (first_pointer registers (read_by (Arithmetic w operation dst operand)))
pointer_misuse (Branch w condition dst operand distance) registers =
    option_or (compared_at registers (Some dst)) (compared_at registers (of_operand operand))
pointer_misuse (Load size dst base offset) registers = no_base registers base
pointer_misuse (LoadSigned part dst base offset) registers = no_base registers base
pointer_misuse (Store size base offset source) registers =
    store_misuse registers base (of_operand source) (known_at registers base)
pointer_misuse i registers = first_pointer registers (read_by i)

-- ---- accesses

-- Returns the memory that a call accesses from the address in r2 on: `size` for each item, for the greatest count,
-- which must be at most 64.
abbrev pub counted : Size → AbsVal → Option Reach
counted size (Number n) = if nat_le (greatest n) board_words
    then Some (record { base = 2; distance = pos 0; size = bytes_of size * greatest n }) else None
counted size _ = None

-- Returns the memory that a call of this helper accesses, if it accesses any.
abbrev pub call_reach : Option Helper → AbsVal → Option Reach
call_reach (Some BoardCopy) count = counted Double count
call_reach (Some SendRow) count = counted Word count
call_reach _ count = None

-- Returns the memory that an instruction accesses: its base register, the distance from it, and the number of bytes.
abbrev pub reach_of : Insn → List AbsVal → Option Reach
reach_of (Load size dst base offset) registers = Some (record { base = base; distance = offset; size = bytes_of size })
reach_of (LoadSigned part dst base offset) registers =
    Some (record { base = base; distance = offset; size = part_bytes part })
reach_of (Store size base offset source) registers =
    Some (record { base = base; distance = offset; size = bytes_of size })
reach_of (Call number) registers = call_reach (helper_of number) (known_at registers 3)
reach_of i registers = None

-- Returns the first and the last offset that an access may touch. If it has no bytes, they are the offsets at which it
-- would begin.
abbrev pub touched : Offsets → Reach → NumberSpan
touched o reach = record { low = o.0 +ℤ reach.distance; high = (o.1 +ℤ reach.distance) +ℤ pos (reach.size - 1) }

-- Returns the sentence that says that an access may leave its region.
abbrev pub outside : Reach → AbsVal → Option Sentence
outside reach (Pointer region o) = Some (sentence.Memory (access.Outside reach.base region (touched o reach)))
outside reach _ = None

-- Returns the first of the given number of stack cells from `place` on that may hold no byte.
abbrev pub first_empty : List Bool → ℕ → ℕ → Option ℕ
first_empty bytes place zero = None
first_empty bytes place (suc n) = if byte_at bytes place then first_empty bytes (suc place) n else Some place

-- Returns the first stack cell of a window that may hold no byte.
abbrev pub empty_in : Known → Option Window → Option ℕ
empty_in known None = None
empty_in known (Some w) = first_empty known.bytes w.place w.size

-- Returns the sentence that says that an access reads a stack cell that may hold no byte.
abbrev pub empty_cell : Known → Reach → AbsVal → Option Sentence
empty_cell known reach (Pointer Stack o) =
    option_map (λ k. sentence.Memory (access.Empty reach.base (touched o reach) k))
    (empty_in known (window_known Stack o.0 o.1 reach.distance reach.size))
empty_cell known reach _ = None

-- Returns the sentence that says that an access stores to the context.
abbrev pub context_written : Reach → AbsVal → Option Sentence
context_written reach value = Some (sentence.Memory (access.Context reach.base value))

-- ---- calls

-- Returns the sentence that says that a helper does not accept an argument, which must be a number below the bound or,
-- if there is no bound, a pointer.
abbrev pub misfit_of : Helper → ℕ → Option ℕ → AbsVal → Option Sentence
misfit_of helper r (Some bound) (Number n) =
    if nat_lt (greatest n) bound then None else Some (sentence.Call (misfit.Above helper r (Number n) (bound - 1)))
misfit_of helper r (Some bound) value = Some (sentence.Call (misfit.Above helper r value (bound - 1)))
misfit_of helper r None (Number n) = Some (sentence.Call (misfit.NoPointer helper r (Number n)))
misfit_of helper r None value = None

-- Returns the sentence that says that a helper does not accept the argument in register `r`, if it takes one there.
abbrev pub misfit_at : Helper → List AbsVal → ℕ → Option Argument → Option Sentence
misfit_at helper registers r None = None
misfit_at helper registers r (Some argument) = misfit_of helper r (bound_of argument) (known_at registers r)

-- Returns the sentence that says that the words from a slot on may go past the end of the board, if slot and count are
-- numbers up to 64.
abbrev pub past_board : AbsVal → AbsVal → Option Sentence
past_board (Number slots) (Number counts) =
    if nat_le (greatest slots) board_words && nat_le (greatest counts) board_words
    then Some (sentence.Call (misfit.Board (greatest slots + greatest counts))) else None
past_board _ _ = None

-- Returns the sentence that says that the arguments of a call are rejected: the first that the helper does not accept,
-- or else slot and count together.
abbrev pub arguments_misfit : Helper → List AbsVal → List (Option Argument) → Option Sentence
arguments_misfit helper registers (first ∷ second ∷ third ∷ []) =
    option_or (misfit_at helper registers 1 first)
    (option_or (misfit_at helper registers 2 second) (option_or (misfit_at helper registers 3 third)
    (past_board (known_at registers 1) (known_at registers 3))))
arguments_misfit helper registers _ = None

-- Returns the sentence that says that a helper does not accept the arguments of a call.
abbrev pub call_misfit : Insn → List AbsVal → Option Sentence
call_misfit (Call number) registers =
    option_and_then (λ helper. arguments_misfit helper registers (arguments_of helper)) (helper_of number)
call_misfit i registers = None

-- Returns the sentence that says that no helper has the number that an instruction calls.
abbrev pub no_helper : Insn → Option Sentence
no_helper (Call number) = Some (sentence.Call (misfit.Helper number))
no_helper i = None

-- ---- what is missing at an instruction, by the verifier's reason

-- Returns what `tells` says about the access of an instruction, if it makes one.
abbrev pub reached : (Reach → AbsVal → Option Sentence) → Insn → List AbsVal → Option Sentence
reached tells i registers =
    option_and_then (λ reach. tells reach (known_at registers reach.base)) (reach_of i registers)

-- Returns the sentence that explains the verifier's reason at a rejected instruction.
abbrev pub shortfall : Reason → Insn → AbsState → Option Sentence
shortfall reason.Unset i a = first_unset a.registers (read_by i)
shortfall reason.FrameWrite i a = Some (sentence.Register misuse.Frame)
shortfall reason.PointerUse i a = pointer_misuse i a.registers
shortfall reason.Bounds i a = reached outside i a.registers
shortfall reason.StackUnset i a = reached (empty_cell a.stack) i a.registers
shortfall reason.ContextWrite i a = reached context_written i a.registers
shortfall reason.Helper i a = no_helper i
shortfall reason.Argument i a = call_misfit i a.registers
shortfall reason.ExitPointer i a = Some (sentence.Register (misuse.Exit (known_at a.registers 0)))
shortfall _ i a = None
