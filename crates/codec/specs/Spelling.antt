-- The encoding of instructions and programs (RFC 9669, sections 3 to 5; which fields are zero is own).
use Rattle.std.specs.Prelude.{ℕ, ◌+◌, ◌*◌, ◌/◌, ◌%◌, ◌^◌, List, [], ◌∷◌, ◌++◌, Option, Some, None}
use Rattle.std.specs.List.{flat_map}
use Rattle.std.specs.Int.{w16, w32, cast_unsigned, to_le_bytes}
use Rattle.word.specs.declared.Width.{Width}
use Rattle.word.specs.declared.Width.TheVariants.{W32, W64}
use Rattle.word.specs.declared.Operation.{Operation}
use Rattle.word.specs.declared.Operation.TheVariants as op
use Rattle.word.specs.declared.Condition.{Condition}
use Rattle.word.specs.declared.Condition.TheVariants as c
use Rattle.word.specs.declared.Narrow.{Narrow}
use Rattle.word.specs.declared.Narrow.TheVariants as narrow
use Rattle.word.specs.declared.ByteOrder.{ByteOrder}
use Rattle.word.specs.declared.ByteOrder.TheVariants.{Little, Big, Reversed}
use Rattle.word.specs.Arithmetic.{swapped_bytes}
use Rattle.insn.specs.declared.insn.Insn.{Insn}
use Rattle.insn.specs.declared.insn.Insn.TheVariants.{Arithmetic, Negate, SignExtend, Swap, LoadImmediate, Jump, LongJump, Branch, Load, LoadSigned, Store, Call, Exit}
use Rattle.insn.specs.declared.insn.Operand.TheVariants.{Register, Immediate}
use Rattle.insn.specs.declared.insn.Size.{Size}
use Rattle.insn.specs.declared.insn.Size.TheVariants as size
use Rattle.insn.specs.Insn.{part_bytes}
use Rattle.codec.specs.declared.fields.Fields.{Fields}

-- Returns a unit with these fields, as unsigned numbers (section 3.1).
abbrev pub fields : ℕ → ℕ → ℕ → ℕ → ℕ → Fields
fields opcode dst src offset imm = record { opcode = opcode; dst = dst; src = src; offset = offset; imm = imm }

-- Returns the class of arithmetic instructions of this width (section 3.3): ALU 4 or ALU64 7. The bit of value 8 is the
-- source bit.
abbrev pub alu_class : Width → ℕ
alu_class W32 = 4
alu_class W64 = 7

-- Returns the class of jumps of this width (section 3.3): JMP32 6 or JMP 5.
abbrev pub jump_class : Width → ℕ
jump_class W32 = 6
jump_class W64 = 5

-- Returns the code of an operation, in the high four bits of the opcode (section 4.1): ADD 0x0 dst += src, SUB 0x1 dst
-- -= src, MUL 0x2 dst *= src, DIV 0x3 dst = (src != 0) ? (dst / src) : 0, OR 0x4 dst |= src, AND 0x5 dst &= src, LSH
-- 0x6 dst <<= (src & mask), RSH 0x7 dst >>= (src & mask), MOD 0x9 dst = (src != 0) ? (dst % src) : dst, XOR 0xa dst ^=
-- src, MOV 0xb dst = src, ARSH 0xc sign extending dst >>= (src & mask). SDIV and SMOD are DIV and MOD with offset 1.
abbrev pub operation_code : Operation → ℕ
operation_code op.Add = 0x00
operation_code op.Sub = 0x10
operation_code op.Mul = 0x20
operation_code op.Div = 0x30
operation_code op.SignedDiv = 0x30
operation_code op.Or = 0x40
operation_code op.And = 0x50
operation_code op.ShiftLeft = 0x60
operation_code op.ShiftRight = 0x70
operation_code op.Mod = 0x90
operation_code op.SignedMod = 0x90
operation_code op.Xor = 0xa0
operation_code op.Move = 0xb0
operation_code op.ArithmeticShiftRight = 0xc0

-- Returns the offset of an operation: 1 for signed division and remainder, and otherwise 0 (section 4.1).
abbrev pub operation_offset : Operation → ℕ
operation_offset op.SignedDiv = 1
operation_offset op.SignedMod = 1
operation_offset _ = 0

-- Returns the code of a condition, in the high four bits of the opcode (section 4.3): JEQ 0x1 PC += offset if dst ==
-- src, JGT 0x2 if dst > src, JGE 0x3 if dst >= src, JSET 0x4 if dst & src, JNE 0x5 if dst != src, JSGT 0x6 and JSGE 0x7
-- the signed JGT and JGE, JLT 0xa if dst < src, JLE 0xb if dst <= src, JSLT 0xc and JSLE 0xd the signed JLT and JLE.
abbrev pub condition_code : Condition → ℕ
condition_code c.Equal = 0x10
condition_code c.Above = 0x20
condition_code c.AtLeast = 0x30
condition_code c.AnyBit = 0x40
condition_code c.NotEqual = 0x50
condition_code c.SignedAbove = 0x60
condition_code c.SignedAtLeast = 0x70
condition_code c.Below = 0xa0
condition_code c.AtMost = 0xb0
condition_code c.SignedBelow = 0xc0
condition_code c.SignedAtMost = 0xd0

-- Returns the code of a size (section 5): W 0x00 word (4 bytes), H 0x08 half word (2 bytes), B 0x10 byte, DW 0x18
-- double word (8 bytes).
abbrev pub size_code : Size → ℕ
size_code size.Word = 0x00
size_code size.Half = 0x08
size_code size.Byte = 0x10
size_code size.Double = 0x18

-- Returns the code of the size of a sign-extended load (section 5.2).
abbrev pub part_code : Narrow → ℕ
part_code narrow.Word = 0x00
part_code narrow.Half = 0x08
part_code narrow.Byte = 0x10

-- Returns the opcode of a byte swap (section 4.2): END is 0xd0, and in class ALU the source bit selects the byte order.
abbrev pub swap_code : ByteOrder → ℕ
swap_code Little = 0xd4
swap_code Big = 0xdc
swap_code Reversed = 0xd7

-- Returns the units of an instruction: two for the wide one, and otherwise one. An opcode is code, source bit and
-- class, or mode, size and class. Arithmetic: {ADD, K, ALU64} is 0x07, dst += imm; {NEG, K, ALU} 0x84, dst = -dst;
-- {MOV, X, ALU} with offset 8 or 16 moves and extends the sign; {END, ..} 0xd4, 0xdc and 0xd7 swap (section 4.2). The
-- wide one: {IMM, DW, LD} is 0x18, dst = imm64 (section 5.4). Jumps: {JA, K, JMP} 0x05, PC += offset; {JA, K, JMP32}
-- 0x06, PC += imm; {CALL, K, JMP} 0x85, call helper function by static ID; {EXIT, K, JMP} 0x95, return (section 4.3).
-- Loads and stores: {MEM, size, LDX} 0x61, dst = *(unsigned size *) (src + offset); {MEMSX, size, LDX} 0x81, dst =
-- *(signed size *) (src + offset); {MEM, size, ST} 0x62, *(size *) (dst + offset) = imm; {MEM, size, STX} 0x63, *(size
-- *) (dst + offset) = src (sections 5.1 and 5.2).
abbrev pub spelling : Insn → List Fields
spelling (Arithmetic w o dst (Immediate n)) =
    fields (operation_code o + alu_class w) dst 0 (operation_offset o) (cast_unsigned w32 n) ∷ []
spelling (Arithmetic w o dst (Register src)) =
    fields (operation_code o + 8 + alu_class w) dst src (operation_offset o) 0 ∷ []
spelling (Negate w dst) = fields (0x80 + alu_class w) dst 0 0 0 ∷ []
spelling (SignExtend w part dst src) = fields (0xb8 + alu_class w) dst src (8 * part_bytes part) 0 ∷ []
spelling (Swap order bytes dst) = fields (swap_code order) dst 0 0 (8 * swapped_bytes bytes) ∷ []
spelling (LoadImmediate dst number) = fields 0x18 dst 0 0 (number % 2 ^ 32) ∷ fields 0 0 0 0 (number / 2 ^ 32) ∷ []
spelling (Jump distance) = fields 0x05 0 0 (cast_unsigned w16 distance) 0 ∷ []
spelling (LongJump distance) = fields 0x06 0 0 0 (cast_unsigned w32 distance) ∷ []
spelling (Branch w o dst (Immediate n) distance) =
    fields (condition_code o + jump_class w) dst 0 (cast_unsigned w16 distance) (cast_unsigned w32 n) ∷ []
spelling (Branch w o dst (Register src) distance) =
    fields (condition_code o + 8 + jump_class w) dst src (cast_unsigned w16 distance) 0 ∷ []
spelling (Load bytes dst base offset) = fields (0x61 + size_code bytes) dst base (cast_unsigned w16 offset) 0 ∷ []
spelling (LoadSigned part dst base offset) = fields (0x81 + part_code part) dst base (cast_unsigned w16 offset) 0 ∷ []
spelling (Store bytes base offset (Immediate n)) =
    fields (0x62 + size_code bytes) base 0 (cast_unsigned w16 offset) (cast_unsigned w32 n) ∷ []
spelling (Store bytes base offset (Register src)) =
    fields (0x63 + size_code bytes) base src (cast_unsigned w16 offset) 0 ∷ []
spelling (Call helper) = fields 0x85 0 0 0 (cast_unsigned w32 helper) ∷ []
spelling Exit = fields 0x95 0 0 0 0 ∷ []

-- Returns a list of one or two units.
abbrev pub units_list : Fields × Option Fields → List Fields
units_list (first, None) = first ∷ []
units_list (first, Some second) = first ∷ second ∷ []

-- Returns the eight bytes of a unit (section 3.1: the registers in one byte, numbers with the lowest byte first).
abbrev pub unit_bytes : Fields → List ℕ
unit_bytes f = f.opcode ∷ (f.dst + 16 * f.src) ∷ (to_le_bytes w16 f.offset ++ to_le_bytes w32 f.imm)

-- Returns the bytes of an instruction: those of its units, in order.
abbrev pub instruction_bytes : Insn → List ℕ
instruction_bytes insn = flat_map unit_bytes (spelling insn)

-- Returns the bytes of a program: those of its instructions, in order.
abbrev pub program_bytes : List Insn → List ℕ
program_bytes program = flat_map instruction_bytes program
