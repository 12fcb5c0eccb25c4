-- Defines what the verifier knows of the result of a load, from what it knows of the stack and the base, and which
-- loads and stores it rejects (own).
use Rattle.std.specs.Prelude.{ℕ, ℤ, zero, suc, ◌/◌, ◌%◌, ◌==◌, ◌&&◌, Bool, true, false, if◌then◌else◌, List, Option, Some, None, Result, Ok, Err, option_map}
use Rattle.std.specs.Ordering.{int_eq}
use Rattle.std.specs.Result.{result_err}
use Rattle.word.specs.declared.Narrow.{Narrow}
use Rattle.absval.specs.NumberSets.{any}
use Rattle.insn.specs.declared.insn.Size.{Size}
use Rattle.insn.specs.declared.insn.Size.TheVariants.{Byte, Half, Word, Double}
use Rattle.insn.specs.Insn.{bytes_of, part_bytes}
use Rattle.semantics.specs.declared.value.Region.{Region}
use Rattle.semantics.specs.declared.value.Region.TheVariants.{Stack, Context}
use Rattle.absval.specs.declared.value.Offsets.{Offsets}
use Rattle.absval.specs.declared.value.AbsVal.{AbsVal}
use Rattle.insn.specs.declared.insn.Operand.{Operand}
use Rattle.absval.specs.declared.windows.Window.{Window}
use Rattle.absval.specs.Table.{loaded_known}
use Rattle.absval.specs.Windows.{window_known}
use Rattle.absmem.specs.Known.{Known, byte_at, spill_at, pointer_of}
use Rattle.verify.specs.declared.reason.Reason.{Reason}
use Rattle.verify.specs.declared.reason.Reason.TheVariants as reason
use Rattle.verify.specs.declared.reason.Reason.TheVariants.{FrameWrite, PointerUse, Bounds, StackUnset, ContextWrite}
use Rattle.verify.specs.declared.state.AbsState.{AbsState}
use Rattle.verify.specs.Registers.{known_at, operand_known}
use Rattle.verify.specs.Reasons.{unless}
use Rattle.absval.specs.declared.value.AbsVal.TheVariants.{Unset, Number, Pointer}

-- Returns the region and the offsets of a base, which must be a pointer.
abbrev pub pointer_in : AbsVal → Result (Region × Offsets) Reason
pointer_in (Pointer region offsets) = Ok (region, offsets)
pointer_in _ = Err PointerUse

-- ---- Loads: the base must be a pointer, the window (the cells that may be read) must be in its region, and the cells
-- must hold bytes or a whole pointer.

-- Checks whether the given number of cells from `place` on are all known to be bytes.
abbrev pub all_bytes : List Bool → ℕ → ℕ → Bool
all_bytes bytes place zero = true
all_bytes bytes place (suc n) = byte_at bytes place && all_bytes bytes (suc place) n

-- Returns a reason if a cell of a window may not be a byte. The cells of the context are always bytes.
abbrev pub unset_in : Known → Region → Window → Option Reason
unset_in known Context w = None
unset_in known Stack w = if all_bytes known.bytes w.place w.size then None else Some StackUnset

-- Returns the whole pointer that is known to be stored from `place` on, if there is one.
abbrev pub spilled_at : Known → ℕ → Option AbsVal
spilled_at known place =
    option_map (λ p. Pointer p.0 (p.1, p.1)) (pointer_of (place % 8) (spill_at known.spills (place / 8)))

-- Returns the pointer that a load finds, if it loads 8 bytes from only one possible address.
abbrev pub spilled : Known → Size → Window → Option AbsVal
spilled known Double w = if w.size == 8 then spilled_at known w.place else None
spilled known Byte w = None
spilled known Half w = None
spilled known Word w = None

-- Returns the pointer if there is one, and otherwise the number.
abbrev pub pointer_or : Option AbsVal → Result AbsVal Reason → Result AbsVal Reason
pointer_or (Some pointer) number = Ok pointer
pointer_or None number = number

-- Returns what is known of the result of a load from a window of the stack, or why the load is rejected.
abbrev pub stack_given : Known → Size → Window → Result AbsVal Reason
stack_given known size w = pointer_or (spilled known size w) (unless (unset_in known Stack w) (loaded_known size))

-- Returns what is known of the result of a load from a window of a region, or why the load is rejected.
abbrev pub load_from : Known → Size → Region → Option Window → Result AbsVal Reason
load_from known size region None = Err Bounds
load_from known size Context (Some w) = Ok (loaded_known size)
load_from known size Stack (Some w) = stack_given known size w

-- Returns what is known of the result of a load, or why the load is rejected.
abbrev pub load_given : Known → Size → AbsVal → ℤ → Result AbsVal Reason
load_given known size Unset distance = Err PointerUse
load_given known size (Number n) distance = Err PointerUse
load_given known size (Pointer region at) distance =
    load_from known size region (window_known region at.0 at.1 distance (bytes_of size))

-- What is known of a value that may be any number.
abbrev pub all_numbers : AbsVal
all_numbers = Number any

-- Returns what is known of the result of a sign-extended load from a window of a region, or why the load is rejected.
abbrev pub signed_from : Known → Region → Option Window → Result AbsVal Reason
signed_from known region None = Err Bounds
signed_from known region (Some w) = unless (unset_in known region w) all_numbers

-- Returns what is known of the result of a sign-extended load, or why the load is rejected. The result is never a
-- pointer.
abbrev pub signed_load_given : Known → Narrow → AbsVal → ℤ → Result AbsVal Reason
signed_load_given known part Unset distance = Err PointerUse
signed_load_given known part (Number n) distance = Err PointerUse
signed_load_given known part (Pointer region at) distance =
    signed_from known region (window_known region at.0 at.1 distance (part_bytes part))

-- ---- Stores: the base must be a pointer into the stack, a pointer must be stored whole, and the window (the cells
-- that may be written) must be in the stack.

-- Checks whether a pointer may be stored: as 8 bytes, at only one possible address, and with only one possible offset.
abbrev pub is_storable : Size → ℤ × ℤ → ℤ × ℤ → Bool
is_storable Double at stored = int_eq at.0 at.1 && int_eq stored.0 stored.1
is_storable Byte at stored = false
is_storable Half at stored = false
is_storable Word at stored = false

-- Returns why a window may not be written: it is in the context, or it may leave the stack.
abbrev pub write_refused : Region → Option Window → Option Reason
write_refused Context w = Some ContextWrite
write_refused Stack None = Some Bounds
write_refused Stack (Some w) = None

-- Returns why a pointer may not be stored, if it may not.
abbrev pub pointer_refused : Size → Region → ℤ × ℤ → ℤ → ℤ × ℤ → Option Reason
pointer_refused size region at distance stored =
    if is_storable size at stored then write_refused region (window_known region at.0 at.1 distance 8)
    else Some PointerUse

-- Returns why a value may not be stored, if it may not.
abbrev pub store_refused : Size → AbsVal → ℤ → AbsVal → Option Reason
store_refused size Unset distance value = Some PointerUse
store_refused size (Number n) distance value = Some PointerUse
store_refused size (Pointer region at) distance Unset = Some reason.Unset
store_refused size (Pointer region at) distance (Number n) =
    write_refused region (window_known region at.0 at.1 distance (bytes_of size))
store_refused size (Pointer region at) distance (Pointer other stored) = pointer_refused size region at distance stored

-- ---- The checks of instructions, in order: what is read must be set, r10 must not be written, and then the checks
-- above.

-- Returns the reason `Unset` if the value may be unset, and otherwise the next reason.
abbrev pub unset_or : AbsVal → Option Reason → Option Reason
unset_or Unset next = Some reason.Unset
unset_or (Number n) next = next
unset_or (Pointer region at) next = next

-- Returns the reason `FrameWrite` if r10 is written, and otherwise the next reason.
abbrev pub frame_or : ℕ → Option Reason → Option Reason
frame_or dst next = if dst == 10 then Some FrameWrite else next

-- Returns why a load is rejected, if it is.
abbrev pub load_reason : AbsState → Size → ℕ → ℕ → ℤ → Option Reason
load_reason state size dst base offset =
    unset_or (known_at state.registers base)
    (frame_or dst (result_err (load_given state.stack size (known_at state.registers base) offset)))

-- Returns why a sign-extended load is rejected, if it is.
abbrev pub signed_load_reason : AbsState → Narrow → ℕ → ℕ → ℤ → Option Reason
signed_load_reason state part dst base offset =
    unset_or (known_at state.registers base)
    (frame_or dst (result_err (signed_load_given state.stack part (known_at state.registers base) offset)))

-- Returns why a store is rejected, if it is.
abbrev pub store_reason : AbsState → Size → ℕ → ℤ → Operand → Option Reason
store_reason state size base offset source =
    unset_or (known_at state.registers base) (unset_or (operand_known state.registers source)
    (store_refused size (known_at state.registers base) offset (operand_known state.registers source)))
