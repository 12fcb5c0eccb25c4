-- Defines what is known after an instruction that may run, as the verifier computes it. The definition also has a
-- result for an instruction that may not run (own).
use Rattle.std.specs.Prelude.{ℕ, ℤ, nat_le, if◌then◌else◌, Option, Some, None}
use Rattle.insn.specs.declared.insn.Insn.{Insn}
use Rattle.insn.specs.declared.insn.Insn.TheVariants.{Arithmetic, Negate, SignExtend, Swap, LoadImmediate, Load, LoadSigned, Store, Call}
use Rattle.insn.specs.declared.insn.Size.{Size}
use Rattle.semantics.specs.Limits.{board_words}
use Rattle.semantics.specs.declared.value.Region.TheVariants.{Stack}
use Rattle.semantics.specs.declared.request.Helper.{Helper}
use Rattle.semantics.specs.declared.request.Helper.TheVariants.{BoardCopy}
use Rattle.semantics.specs.Call.{helper_of}
use Rattle.absval.specs.NumberSets.{greatest}
use Rattle.absval.specs.declared.value.AbsVal.{AbsVal}
use Rattle.absval.specs.declared.value.AbsVal.TheVariants.{Number, Pointer}
use Rattle.absmem.specs.Known.{Known}
use Rattle.verify.specs.declared.state.AbsState.{AbsState}
use Rattle.verify.specs.Registers.{known_at, operand_known}
use Rattle.verify.specs.Transfer.{stored, copied, transfer}

-- Returns the abstract stack after a value is stored at the address `base` plus `distance`. The stack is unchanged if
-- the address is not in it.
abbrev pub stored_in_stack : Size → AbsVal → ℤ → AbsVal → Known → Known
stored_in_stack size (Pointer Stack at) distance value known = stored size (Pointer Stack at) distance value known
stored_in_stack size base distance value known = known

-- Returns the abstract stack after words of the board are copied to the address `target`. The stack is unchanged if the
-- address is not in it, or if there may be more words than the board has.
abbrev pub copied_to_stack : AbsVal → AbsVal → Known → Known
copied_to_stack (Pointer Stack at) (Number counts) known =
    if nat_le (greatest counts) board_words then copied (Pointer Stack at) (Number counts) known else known
copied_to_stack target counts known = known

-- Returns the abstract stack after a call of a helper. Only `board_copy`, which copies words of the board, writes to
-- it.
abbrev pub behind_call : Option Helper → AbsVal → AbsVal → Known → Known
behind_call (Some BoardCopy) target counts known = copied_to_stack target counts known
behind_call helper target counts known = known

-- Returns the state after an instruction, for an instruction that may run.
abbrev pub left : Insn → AbsState → AbsState
left (Store size base offset source) a =
    record {
      registers = a.registers;
      stack = stored_in_stack size (known_at a.registers base) offset (operand_known a.registers source) a.stack;
    }
left (Call number) a =
    record {
      registers = (transfer (Call number) a).registers;
      stack = behind_call (helper_of number) (known_at a.registers 2) (known_at a.registers 3) a.stack;
    }
left i a = transfer i a

-- Returns the register to which an instruction writes its result, which is r0 for a call. Returns `None` for jumps,
-- stores and the exit.
abbrev pub result_of : Insn → Option ℕ
result_of (Arithmetic w operation dst operand) = Some dst
result_of (Negate w dst) = Some dst
result_of (SignExtend w part dst src) = Some dst
result_of (Swap order size dst) = Some dst
result_of (LoadImmediate dst number) = Some dst
result_of (Load size dst base offset) = Some dst
result_of (LoadSigned part dst base offset) = Some dst
result_of (Call number) = Some 0
result_of i = None
