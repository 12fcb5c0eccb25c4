-- The instructions of a line number program (DWARF 5, section 6.2.5), by their effect on the registers address, file
-- and line.
use Rattle.std.specs.Prelude.{ℕ, ◌+◌, ◌-◌, ◌*◌, ◌/◌, ◌%◌, ◌^◌, List, length, ◌==◌, ◌&&◌, ◌||◌, nat_lt, nat_le, if◌then◌else◌}
use Rattle.std.specs.Prelude.{Option, Some, None, option_map, option_and_then}
use Rattle.object.specs.Number.{number_at}
use Rattle.object.specs.declared.leb128.Read.{Read}
use Rattle.object.specs.declared.header.Header.{Header}
use Rattle.object.specs.declared.step.Step.{Step}
use Rattle.object.specs.declared.step.Step.TheVariants.{Row, Address, Line, File, Start, End, Other}
use Rattle.object.specs.declared.step.Stepped.{Stepped}
use Rattle.object.specs.Numbers.{unsigned_at, signed_at}

-- Returns an instruction with the byte index after it.
abbrev pub stepped : Step → ℕ → Stepped
stepped step next = record { step = step; next = next }

-- Returns the number of bytes that a special opcode adds to the address. `above` is the opcode's distance from the
-- first special opcode.
abbrev pub address_advance : Header → ℕ → ℕ
address_advance header above = header.shortest * (above / header.range)

-- Returns the effect of a special opcode, which changes address and line and appends a row. `above` is the opcode's
-- distance from the first special opcode.
abbrev pub special : Header → ℕ → Step
special header above = Row (address_advance header above) ((header.base + above % header.range) % 2 ^ 64)

-- Returns the instruction with the operand that was read, and the byte index after it.
abbrev pub by_number : (ℕ → Step) → Option Read → Option Stepped
by_number step = option_map (λ number. stepped (step number.value) number.next)

-- Returns the effect of DW_LNS_advance_pc with operand `n`.
abbrev pub advance_step : Header → ℕ → Step
advance_step header n = Address (header.shortest * n % 2 ^ 64)

-- Returns the effect of an instruction that does not change address, file and line.
abbrev pub no_step : ℕ → Step
no_step n = Other

-- Returns the instruction DW_LNS_fixed_advance_pc, whose operand is the 2 bytes at index `place`.
abbrev pub fixed_advance : ℕ → List ℕ → Option Stepped
fixed_advance place bytes =
    if nat_le (place + 2) (length bytes) then Some (stepped (Address (number_at 2 place bytes)) (place + 2)) else None

-- Returns the effect of a standard opcode without operands: DW_LNS_copy, DW_LNS_const_add_pc, or one that does not
-- change address, file and line.
abbrev pub alone : Header → ℕ → Step
alone header opcode =
    if opcode == 1 then Row 0 0 else if opcode == 8 then Address (address_advance header (255 - header.opcodes))
    else Other

-- Returns the instruction of a standard opcode, whose operands begin at the byte index `place`. Those with operands are
-- DW_LNS_advance_pc, DW_LNS_advance_line, DW_LNS_set_file, DW_LNS_set_column, DW_LNS_set_isa and
-- DW_LNS_fixed_advance_pc.
abbrev pub standard : Header → ℕ → ℕ → List ℕ → Option Stepped
standard header opcode place bytes =
    if opcode == 2 then by_number (advance_step header) (unsigned_at place bytes)
    else if opcode == 3 then by_number Line (signed_at place bytes)
    else if opcode == 4 then by_number File (unsigned_at place bytes)
    else if (opcode == 5) || (opcode == 12) then by_number no_step (unsigned_at place bytes)
    else if opcode == 9 then fixed_advance place bytes
    else Some (stepped (alone header opcode) place)

-- Returns the effect of an extended opcode of `size` bytes: DW_LNE_end_sequence, DW_LNE_set_address with an address of
-- 8 bytes, or one that appends no row.
abbrev pub extended_step : ℕ → ℕ → ℕ → Step
extended_step size opcode place =
    if opcode == 1 then End else if (opcode == 2) && (size == 9) then Start place else Other

-- Returns the instruction of an extended opcode whose size was read: `size.value` bytes from index `size.next` on.
abbrev pub extended_of : List ℕ → Read → Option Stepped
extended_of bytes size =
    if nat_lt 0 size.value && nat_le (size.next + size.value) (length bytes)
    then Some (stepped (extended_step size.value (number_at 1 size.next bytes) (size.next + 1))
    (size.next + size.value))
    else None

-- Returns the instruction of an extended opcode. Its size, a LEB128 number, is at the byte index `place`.
abbrev pub extended : ℕ → List ℕ → Option Stepped
extended place bytes = option_and_then (extended_of bytes) (unsigned_at place bytes)

-- Returns the instruction with this opcode, whose operands begin at the byte index `place`.
abbrev pub step_by : Header → ℕ → ℕ → List ℕ → Option Stepped
step_by header opcode place bytes =
    if nat_le header.opcodes opcode then Some (stepped (special header (opcode - header.opcodes)) place)
    else if opcode == 0 then extended place bytes
    else standard header opcode place bytes

-- Returns the instruction at the byte index `place`.
unfoldable pub step_at : Header → ℕ → List ℕ → Option Stepped
step_at header place bytes = step_by header (number_at 1 place bytes) (place + 1) bytes
