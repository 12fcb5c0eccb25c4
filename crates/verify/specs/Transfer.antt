-- Defines the transfer functions: what is known after an instruction, from what is known before it, and what is known
-- along each edge to a next one (own).
use Rattle.std.specs.Prelude.{ℕ, ℤ, pos, ◌+◌, ◌*◌, ◌+ℤ◌, ◌==◌, Bool, true, false, if◌then◌else◌, List, [], ◌∷◌, ◌++◌, Option, Some, None, Result, option_map, slice_set}
use Rattle.std.specs.Result.{result_ok}
use Rattle.insn.specs.declared.insn.Insn.{Insn}
use Rattle.insn.specs.declared.insn.Insn.TheVariants.{Arithmetic, Negate, SignExtend, Swap, LoadImmediate, Load, LoadSigned, Store, Call, Jump, LongJump, Branch, Exit}
use Rattle.insn.specs.declared.insn.Size.{Size}
use Rattle.insn.specs.Insn.{bytes_of, units_of}
use Rattle.semantics.specs.declared.value.Region.{Region}
use Rattle.semantics.specs.declared.request.Helper.{Helper}
use Rattle.semantics.specs.declared.request.Helper.TheVariants.{BoardCopy}
use Rattle.semantics.specs.Call.{helper_of}
use Rattle.helper.specs.Results.{returned_range}
use Rattle.absval.specs.NumberSets.{single, within, greatest}
use Rattle.absval.specs.declared.value.AbsVal.{AbsVal}
use Rattle.absval.specs.declared.windows.Window.{Window}
use Rattle.absval.specs.Table.{computed, negated_known, extended_known, swapped_known}
use Rattle.absval.specs.Windows.{window_known}
use Rattle.absmem.specs.Known.{Known}
use Rattle.absmem.specs.Stacks.{put_bytes, spread_bytes, put_pointer}
use Rattle.verify.specs.declared.comparison.Comparison.{Comparison}
use Rattle.verify.specs.declared.state.AbsState.{AbsState}
use Rattle.verify.specs.Registers.{known_at, operand_known, first_known, edge_known}
use Rattle.verify.specs.MemoryTable.{load_given, signed_load_given}
use Rattle.verify.specs.declared.reason.Reason.{Reason}
use Rattle.verify.specs.Reasons.{unless}
use Rattle.verify.specs.Instructions.{straight_reason}
use Rattle.verify.specs.Calls.{is_certain, window_from, known_behind}
use Rattle.absval.specs.declared.value.AbsVal.TheVariants.{Number, Pointer}

-- Replaces what is known of register `dst`, if there is a new value.
abbrev pub assigned : AbsState → ℕ → Option AbsVal → AbsState
assigned a dst None = a
assigned a dst (Some value) = record { registers = slice_set a.registers dst value; stack = a.stack }

-- ---- Stores

-- Returns what is known of the stack after a number is stored. If the window is wider than the number, the number is
-- somewhere in it.
abbrev pub number_stored : ℕ → Option Window → Known → Known
number_stored size None known = known
number_stored size (Some w) known =
    if w.size == size then put_bytes w.place w.size known else spread_bytes w.place w.size known

-- Returns what is known of the stack after a pointer is stored.
abbrev pub pointer_stored : Region → ℤ → Option Window → Known → Known
pointer_stored region offset None known = known
pointer_stored region offset (Some w) known = put_pointer w.place region offset known

-- Returns what is known of the stack after a value is stored.
abbrev pub stored : Size → AbsVal → ℤ → AbsVal → Known → Known
stored size (Pointer region at) distance (Number n) known =
    number_stored (bytes_of size) (window_known region at.0 at.1 distance (bytes_of size)) known
stored size (Pointer region at) distance (Pointer other kept) known =
    pointer_stored other kept.0 (window_known region at.0 at.1 distance 8) known
stored size base distance value known = known

-- ---- Calls

-- Returns what is known of the stack after words are written to a window. If it is not certain that they fill it, they
-- are somewhere in it.
abbrev pub written : Bool → Option Window → Known → Known
written certain None known = known
written true (Some w) known = put_bytes w.place w.size known
written false (Some w) known = spread_bytes w.place w.size known

-- Returns what is known of the stack after words of the board are copied to it.
abbrev pub copied : AbsVal → AbsVal → Known → Known
copied (Pointer region offsets) (Number counts) known =
    written (is_certain offsets counts) (window_from region offsets (8 * greatest counts)) known
copied target counts known = known

-- Returns what is known of the stack after a call. Only `board_copy` writes to it.
abbrev pub stack_behind : Helper → AbsState → Known
stack_behind BoardCopy a = copied (known_at a.registers 2) (known_at a.registers 3) a.stack
stack_behind helper a = a.stack

-- Returns what is known after a call of a helper.
abbrev pub called : Option Helper → AbsState → AbsState
called None a = a
called (Some helper) a =
    record { registers = known_behind (within (returned_range helper)) a.registers; stack = stack_behind helper a }

-- ---- Instructions

-- Returns what is known after an instruction that always continues with the next one.
abbrev pub transfer : Insn → AbsState → AbsState
transfer (Arithmetic w operation dst operand) a =
    assigned a dst (computed w operation (first_known a.registers operation dst) (operand_known a.registers operand))
transfer (Negate w dst) a = assigned a dst (negated_known w (known_at a.registers dst))
transfer (SignExtend w part dst src) a = assigned a dst (extended_known w part (known_at a.registers src))
transfer (Swap order size dst) a = assigned a dst (swapped_known order size (known_at a.registers dst))
transfer (LoadImmediate dst number) a = assigned a dst (Some (Number (single number)))
transfer (Load size dst base offset) a =
    assigned a dst (result_ok (load_given a.stack size (known_at a.registers base) offset))
transfer (LoadSigned part dst base offset) a =
    assigned a dst (result_ok (signed_load_given a.stack part (known_at a.registers base) offset))
transfer (Store size base offset source) a =
    record {
      registers = a.registers;
      stack = stored size (known_at a.registers base) offset (operand_known a.registers source) a.stack;
    }
transfer (Call number) a = called (helper_of number) a
transfer i a = a

-- Returns what is known after an instruction that always continues with the next one, or why the instruction is
-- rejected.
abbrev pub stepped : Insn → AbsState → Result AbsState Reason
stepped i a = unless (straight_reason i a) (transfer i a)

-- Returns what is known if a conditional jump is taken, or if it is not. No result means that this is impossible.
abbrev pub narrowed : Comparison → Bool → AbsState → Option AbsState
narrowed c taken a =
    option_map (λ known. record { registers = known; stack = a.stack }) (edge_known c taken a.registers)

-- An edge: the unit to which it leads, and what is known along it.
abbrev pub Edge : Type 0
Edge = ℤ × AbsState

-- Returns the edge to a unit, or no edge if nothing is given as known along it.
abbrev pub edge_to : ℤ → Option AbsState → List Edge
edge_to unit None = []
edge_to unit (Some a) = (unit, a) ∷ []

-- Returns the edges from an instruction at `unit` to the next ones. A jump counts units from the next instruction (RFC
-- 9669, section 4.3).
abbrev pub edges : Insn → ℕ → AbsState → List Edge
edges (Jump distance) unit a = (pos (unit + 1) +ℤ distance, a) ∷ []
edges (LongJump distance) unit a = (pos (unit + 1) +ℤ distance, a) ∷ []
edges (Branch w condition dst operand distance) unit a =
    edge_to (pos (unit + 1)) (narrowed (record {
      width = w;
      condition = condition;
      dst = dst;
      operand = operand;
    }) false a)
    ++ edge_to (pos (unit + 1) +ℤ distance)
    (narrowed (record { width = w; condition = condition; dst = dst; operand = operand }) true a)
edges Exit unit a = []
edges i unit a = (pos (unit + units_of i), transfer i a) ∷ []
