-- Defines why the verifier rejects an instruction, from what is known before it (own).
use Rattle.std.specs.Prelude.{Option, None}
use Rattle.insn.specs.declared.insn.Insn.{Insn}
use Rattle.insn.specs.declared.insn.Insn.TheVariants.{Arithmetic, Negate, SignExtend, Swap, LoadImmediate, Load, LoadSigned, Store, Call, Jump, LongJump, Branch, Exit}
use Rattle.absval.specs.Table.{negated_known, extended_known, swapped_known}
use Rattle.verify.specs.declared.reason.Reason.{Reason}
use Rattle.verify.specs.declared.state.AbsState.{AbsState}
use Rattle.verify.specs.Registers.{known_at, operand_known}
use Rattle.verify.specs.Reasons.{first_reason, made_checks, arithmetic_checks, write_checks, compare_checks, exit_checks}
use Rattle.verify.specs.MemoryTable.{load_reason, signed_load_reason, store_reason}
use Rattle.verify.specs.Calls.{call_reason}

-- States that the instruction always continues with the next one: it is neither a jump nor the exit.
abbrev pub IsStraight : Insn → Type 0
IsStraight (Jump distance) = ⊥
IsStraight (LongJump distance) = ⊥
IsStraight (Branch width condition dst operand distance) = ⊥
IsStraight Exit = ⊥
IsStraight _ = Unit {0}

-- Returns why an instruction that always continues with the next one is rejected, if it is.
abbrev pub straight_reason : Insn → AbsState → Option Reason
straight_reason (Arithmetic w operation dst operand) a =
    first_reason (arithmetic_checks a.registers w operation dst operand)
straight_reason (Negate w dst) a =
    first_reason (made_checks dst (known_at a.registers dst) (negated_known w (known_at a.registers dst)))
straight_reason (SignExtend w part dst src) a =
    first_reason (made_checks dst (known_at a.registers src) (extended_known w part (known_at a.registers src)))
straight_reason (Swap order size dst) a =
    first_reason (made_checks dst (known_at a.registers dst) (swapped_known order size (known_at a.registers dst)))
straight_reason (LoadImmediate dst number) a = first_reason (write_checks dst)
straight_reason (Load size dst base offset) a = load_reason a size dst base offset
straight_reason (LoadSigned part dst base offset) a = signed_load_reason a part dst base offset
straight_reason (Store size base offset source) a = store_reason a size base offset source
straight_reason (Call number) a = call_reason a number
straight_reason _ a = None

-- Returns why an instruction is rejected, if it is.
abbrev pub reason_of : Insn → AbsState → Option Reason
reason_of (Branch w condition dst operand distance) a =
    first_reason (compare_checks (known_at a.registers dst) (operand_known a.registers operand))
reason_of Exit a = first_reason (exit_checks (known_at a.registers 0))
reason_of i a = straight_reason i a
