-- The kind of instruction that an opcode selects (RFC 9669, section 3.3: the low three bits are the class).
use Rattle.std.specs.Prelude.{ℕ, ◌≡◌, ◌+◌, ◌*◌, ◌/◌, ◌%◌, ◌==◌, ◌||◌, if◌then◌else◌, Option, Some, None}
use Rattle.word.specs.declared.Width.{Width}
use Rattle.word.specs.declared.Width.TheVariants.{W32, W64}
use Rattle.word.specs.declared.Operation.{Operation}
use Rattle.word.specs.declared.Operation.TheVariants as op
use Rattle.word.specs.declared.Condition.{Condition}
use Rattle.word.specs.declared.Condition.TheVariants as c
use Rattle.word.specs.declared.Narrow.{Narrow}
use Rattle.word.specs.declared.Narrow.TheVariants as narrow
use Rattle.word.specs.declared.ByteOrder.TheVariants.{Little, Big, Reversed}
use Rattle.insn.specs.declared.insn.Size.TheVariants as size
use Rattle.insn.specs.Insn.{part_bytes, IsExtension}
use Rattle.codec.specs.declared.form.Division.{Division}
use Rattle.codec.specs.declared.form.Division.TheVariants.{Quotient, Remainder}
use Rattle.codec.specs.declared.form.Form.{Form}
use Rattle.codec.specs.declared.form.Form.TheVariants as forms
use Rattle.codec.specs.Spelling.{alu_class, jump_class, operation_code, operation_offset, condition_code, size_code, part_code, swap_code}

-- Returns the operation that the opcode's high four bits select, of those that do not use the `offset` field (section
-- 4.1). The move is not one of them.
abbrev pub operation_of : ℕ → Option Operation
operation_of n =
    if n == 0x0 then Some op.Add else
    if n == 0x1 then Some op.Sub else
    if n == 0x2 then Some op.Mul else
    if n == 0x4 then Some op.Or else
    if n == 0x5 then Some op.And else
    if n == 0x6 then Some op.ShiftLeft else
    if n == 0x7 then Some op.ShiftRight else
    if n == 0xa then Some op.Xor else
    if n == 0xc then Some op.ArithmeticShiftRight else
    None

-- Returns the division that the opcode's high four bits select. Its `offset` field says whether it is signed (section
-- 4.1).
abbrev pub division_of : ℕ → Option Division
division_of n =
    if n == 0x3 then Some Quotient else
    if n == 0x9 then Some Remainder else
    None

-- Returns the condition of a jump that the opcode's high four bits select (section 4.3).
abbrev pub condition_of : ℕ → Option Condition
condition_of n =
    if n == 0x1 then Some c.Equal else
    if n == 0x2 then Some c.Above else
    if n == 0x3 then Some c.AtLeast else
    if n == 0x4 then Some c.AnyBit else
    if n == 0x5 then Some c.NotEqual else
    if n == 0x6 then Some c.SignedAbove else
    if n == 0x7 then Some c.SignedAtLeast else
    if n == 0xa then Some c.Below else
    if n == 0xb then Some c.AtMost else
    if n == 0xc then Some c.SignedBelow else
    if n == 0xd then Some c.SignedAtMost else
    None

-- Returns the kind of instruction for an opcode of class LD (section 5.4). The packet instructions of section 5.5 are
-- not supported.
abbrev pub wide_form : ℕ → Form
wide_form n =
    if n == 0x18 then forms.LoadImmediate else
    if n == 0x20 || n == 0x28 || n == 0x30 || n == 0x40 || n == 0x48 || n == 0x50 then forms.LeftOut else
    forms.Unknown

-- Returns the kind of instruction for an opcode of class LDX (sections 5.1 and 5.2).
abbrev pub load_form : ℕ → Form
load_form n =
    if n == 0x61 then forms.Load size.Word else
    if n == 0x69 then forms.Load size.Half else
    if n == 0x71 then forms.Load size.Byte else
    if n == 0x79 then forms.Load size.Double else
    if n == 0x81 then forms.LoadSigned narrow.Word else
    if n == 0x89 then forms.LoadSigned narrow.Half else
    if n == 0x91 then forms.LoadSigned narrow.Byte else
    forms.Unknown

-- Returns the kind of instruction for an opcode of class ST (section 5.1).
abbrev pub store_form : ℕ → Form
store_form n =
    if n == 0x62 then forms.StoreImmediate size.Word else
    if n == 0x6a then forms.StoreImmediate size.Half else
    if n == 0x72 then forms.StoreImmediate size.Byte else
    if n == 0x7a then forms.StoreImmediate size.Double else
    forms.Unknown

-- Returns the kind of instruction for an opcode of class STX (section 5.1). The atomic instructions of section 5.3 are
-- not supported.
abbrev pub store_register_form : ℕ → Form
store_register_form n =
    if n == 0x63 then forms.StoreRegister size.Word else
    if n == 0x6b then forms.StoreRegister size.Half else
    if n == 0x73 then forms.StoreRegister size.Byte else
    if n == 0x7b then forms.StoreRegister size.Double else
    if n == 0xc3 || n == 0xdb then forms.LeftOut else
    forms.Unknown

-- Returns the byte swap if the source bit is 0: to little-endian in class ALU, and a reversal in class ALU64.
abbrev pub swap_form : Width → Form
swap_form W32 = forms.Swap Little
swap_form W64 = forms.Swap Reversed

-- Returns the kind of instruction in classes ALU and ALU64 if the source bit is 0, from the high four bits and the
-- operation or division that they select.
abbrev pub immediate_or : Width → ℕ → Option Operation → Option Division → Form
immediate_or width n (Some operation) division = forms.Immediate width operation
immediate_or width n None (Some division) = forms.DivideImmediate width division
immediate_or width n None None =
    if n == 0x8 then forms.Negate width else
    if n == 0xb then forms.Immediate width op.Move else
    if n == 0xd then swap_form width else
    forms.Unknown

-- Returns the kind of instruction in classes ALU and ALU64 if the source bit is 0, from the high four bits.
abbrev pub immediate_form : Width → ℕ → Form
immediate_form width n = immediate_or width n (operation_of n) (division_of n)

-- Returns the byte swap if the source bit is 1: to big-endian in class ALU, and none in class ALU64.
abbrev pub swap_register_form : Width → Form
swap_register_form W32 = forms.Swap Big
swap_register_form W64 = forms.Unknown

-- Returns the kind of instruction in classes ALU and ALU64 if the source bit is 1, from the high four bits and the
-- operation or division that they select.
abbrev pub register_or : Width → ℕ → Option Operation → Option Division → Form
register_or width n (Some operation) division = forms.Register width operation
register_or width n None (Some division) = forms.DivideRegister width division
register_or width n None None =
    if n == 0xb then forms.MoveRegister width else
    if n == 0xd then swap_register_form width else
    forms.Unknown

-- Returns the kind of instruction in classes ALU and ALU64 if the source bit is 1, from the high four bits.
abbrev pub register_form : Width → ℕ → Form
register_form width n = register_or width n (operation_of n) (division_of n)

-- Returns the kind of instruction in classes JMP and JMP32 if the source bit is 0, from the high four bits and the
-- condition that they select.
abbrev pub jump_or : Width → ℕ → Option Condition → Form
jump_or width n (Some condition) = forms.BranchImmediate width condition
jump_or W32 n None = if n == 0x0 then forms.LongJump else forms.Unknown
jump_or W64 n None =
    if n == 0x0 then forms.Jump else
    if n == 0x8 then forms.Call else
    if n == 0x9 then forms.Exit else
    forms.Unknown

-- Returns the kind of instruction in classes JMP and JMP32 if the source bit is 0, from the high four bits.
abbrev pub jump_form : Width → ℕ → Form
jump_form width n = jump_or width n (condition_of n)

-- Returns the kind of instruction in classes JMP and JMP32 if the source bit is 1, from the condition that the high
-- four bits select.
abbrev pub branch_or : Width → Option Condition → Form
branch_or width (Some condition) = forms.BranchRegister width condition
branch_or width None = forms.Unknown

-- Returns the kind of instruction in classes JMP and JMP32 if the source bit is 1, from the high four bits.
abbrev pub jump_register_form : Width → ℕ → Form
jump_register_form width n = branch_or width (condition_of n)

-- Returns the kind of instruction that an opcode selects. In arithmetic instructions and jumps, bit 3 is the source
-- bit, and the high four bits are the operation or condition.
abbrev pub form_of : ℕ → Form
form_of n =
    if n % 16 == 0x0 || n % 16 == 0x8 then wide_form n else
    if n % 16 == 0x1 || n % 16 == 0x9 then load_form n else
    if n % 16 == 0x2 || n % 16 == 0xa then store_form n else
    if n % 16 == 0x3 || n % 16 == 0xb then store_register_form n else
    if n % 16 == 0x4 then immediate_form W32 (n / 16) else
    if n % 16 == 0x5 then jump_form W64 (n / 16) else
    if n % 16 == 0x6 then jump_form W32 (n / 16) else
    if n % 16 == 0x7 then immediate_form W64 (n / 16) else
    if n % 16 == 0xc then register_form W32 (n / 16) else
    if n % 16 == 0xd then jump_register_form W64 (n / 16) else
    if n % 16 == 0xe then jump_register_form W32 (n / 16) else
    register_form W64 (n / 16)

-- Returns the division that the `offset` field selects: signed if it is 1, and otherwise unsigned (section 4.1).
abbrev pub divided : Division → ℕ → Operation
divided Quotient n = if n == 1 then op.SignedDiv else op.Div
divided Remainder n = if n == 1 then op.SignedMod else op.Mod

-- States that instructions of this kind are encoded with this opcode. Says nothing about unsupported and unknown ones.
abbrev pub IsOpcode : Form → ℕ → Type 0
IsOpcode (forms.Immediate width operation) n =
    (n ≡ operation_code operation + alu_class width) × (operation_offset operation ≡ 0)
IsOpcode (forms.Register width operation) n =
    (n ≡ operation_code operation + 8 + alu_class width) × (operation_offset operation ≡ 0)
IsOpcode (forms.DivideImmediate width division) n = n ≡ operation_code (divided division 0) + alu_class width
IsOpcode (forms.DivideRegister width division) n = n ≡ operation_code (divided division 0) + 8 + alu_class width
IsOpcode (forms.MoveRegister width) n = n ≡ 0xb8 + alu_class width
IsOpcode (forms.Negate width) n = n ≡ 0x80 + alu_class width
IsOpcode (forms.Swap order) n = n ≡ swap_code order
IsOpcode forms.LoadImmediate n = n ≡ 0x18
IsOpcode forms.Jump n = n ≡ 0x05
IsOpcode forms.LongJump n = n ≡ 0x06
IsOpcode (forms.BranchImmediate width condition) n = n ≡ condition_code condition + jump_class width
IsOpcode (forms.BranchRegister width condition) n = n ≡ condition_code condition + 8 + jump_class width
IsOpcode (forms.Load bytes) n = n ≡ 0x61 + size_code bytes
IsOpcode (forms.LoadSigned part) n = n ≡ 0x81 + part_code part
IsOpcode (forms.StoreImmediate bytes) n = n ≡ 0x62 + size_code bytes
IsOpcode (forms.StoreRegister bytes) n = n ≡ 0x63 + size_code bytes
IsOpcode forms.Call n = n ≡ 0x85
IsOpcode forms.Exit n = n ≡ 0x95
IsOpcode forms.LeftOut n = Unit {0}
IsOpcode forms.Unknown n = Unit {0}

-- States that the `offset` field selects a plain move, or the sign extension of this part.
abbrev pub IsMoved : Width → Option Narrow → ℕ → Type 0
IsMoved width None n = n ≡ 0
IsMoved width (Some part) n = (n ≡ 8 * part_bytes part) × IsExtension width part
