-- Defines the report of a fault of bytecode: the sentence for each code, and the part of the unit's hex digits to mark
-- (own).
use Rattle.std.specs.Prelude.{ℕ, List, [], ◌∷◌, ◌*◌, ◌==◌, ◌||◌, if◌then◌else◌, Option, None, Some, codes, drop, take, unwrap_or}
use Rattle.codec.specs.declared.fault.CodecFault.{CodecFault}
use Rattle.codec.specs.declared.fault.CodecFault.TheVariants as fault
use Rattle.hex.specs.Hex.{encode_lower}
use Rattle.text.specs.Number.{digits_on}
use Rattle.cli_report.specs.Lines.{marked}
use Rattle.cli_report.specs.Report.{Mark, report_text}

-- Returns the number in the first two hex digits, or 0 if they are no hex digits.
abbrev pub byte_of : List ℕ → ℕ
byte_of digits = unwrap_or (digits_on 16 0 (take 2 digits)) 0

-- Returns the error sentence for a BPF instruction with this opcode that byzlab does not support, with its conformance
-- group (RFC 9669, sections 2.4 and 5).
abbrev pub left_out_sentence : ℕ → List ℕ
left_out_sentence opcode =
    if opcode == 0x85 then codes
    "a local call of a function in the program (group base32), or a call of a helper by its BTF id, is not supported"
    else if opcode == 0x18 then codes "a wide load of a map, a variable or code (group base64) is not supported"
    else if opcode == 0xc3 then codes "a 32-bit atomic instruction (group atomic32) is not supported"
    else if opcode == 0xdb then codes "a 64-bit atomic instruction (group atomic64) is not supported"
    else codes "a packet load (group packet) is not supported"

-- Returns the error sentence for a field that selects no form of the instruction with this opcode.
abbrev pub choice_sentence : ℕ → List ℕ
choice_sentence opcode =
    if opcode == 0xd4 || opcode == 0xd7 || opcode == 0xdc
    then codes "the number of a byte swap must be 16, 32 or 64, its width in bits"
    else if opcode == 0xbc || opcode == 0xbf
    then codes "the offset of a move must be 0, or the number of bits to sign-extend: 8, 16 or, in 64 bits, 32"
    else codes "the offset of a division or remainder must be 0, or 1 if it is signed"

-- Returns the error sentence for a fault in the unit of bytecode with these hex digits.
abbrev pub unit_sentence : CodecFault → List ℕ → List ℕ
unit_sentence fault.Length digits = codes "the file ends within this unit, and a unit has 8 bytes"
unit_sentence fault.Opcode digits = codes "no instruction has this opcode"
unit_sentence fault.Reserved digits = codes "a field that this instruction does not use is not zero"
unit_sentence fault.WideCut digits = codes "the second half of this wide instruction is missing"
unit_sentence fault.Register digits = codes "the registers are r0 to r10"
unit_sentence fault.LeftOut digits = left_out_sentence (byte_of digits)
unit_sentence fault.Operand digits = choice_sentence (byte_of digits)
unit_sentence fault.Count digits = codes "a program must have 1 to 4096 units"

-- Returns which hex digits of a unit show that its instruction is not supported: how many are before them, and how many
-- they are. For a call and a wide load they are the second byte, with the source register, and otherwise the opcode.
abbrev pub left_out_place : ℕ → ℕ × ℕ
left_out_place opcode = if opcode == 0x85 || opcode == 0x18 then (2, 2) else (0, 2)

-- Returns which hex digits of a unit select the form of its instruction: how many are before them, and how many they
-- are. For a swap they are the last four bytes, and otherwise the offset.
abbrev pub choice_place : ℕ → ℕ × ℕ
choice_place opcode = if opcode == 0xd4 || opcode == 0xd7 || opcode == 0xdc then (8, 8) else (4, 4)

-- Returns which hex digits of a unit are at fault: how many are before them, and how many they are.
abbrev pub unit_place : CodecFault → List ℕ → ℕ × ℕ
unit_place fault.Opcode digits = (0, 2)
unit_place fault.Register digits = (2, 2)
unit_place fault.LeftOut digits = left_out_place (byte_of digits)
unit_place fault.Operand digits = choice_place (byte_of digits)
unit_place _ digits = (0, 16)

-- Returns the 8 bytes of a unit, counted from 0, or fewer if the file ends before. A unit after 32,768 bytes, the most
-- that a program may have, has none.
abbrev pub unit_at : List ℕ → ℕ → List ℕ
unit_at bytes unit = take 8 (drop (8 * unit) (take 32768 bytes))

-- Marks the hex digits of a unit that are at fault. Returns `None` if the file has no such unit, or if the fault is the
-- number of units.
abbrev pub unit_marked : CodecFault → ℕ → List ℕ → Option Mark
unit_marked fault.Count unit digits = None
unit_marked f unit [] = None
unit_marked f unit (d ∷ ds) = Some (marked unit (d ∷ ds) (unit_place f (d ∷ ds)).0 (unit_place f (d ∷ ds)).1)

-- Returns the report of a fault at the unit with these hex digits, in the file `name`.
abbrev pub unit_told : List ℕ → CodecFault → ℕ → List ℕ → List ℕ
unit_told name f unit digits = report_text name (unit_sentence f digits) (unit_marked f unit digits) None

-- Returns the report of a fault at unit `unit`, counted from 0, in the file `name` with these bytes.
unfoldable pub bytecode_told : List ℕ → List ℕ → CodecFault → ℕ → List ℕ
bytecode_told name bytes f unit = unit_told name f unit (encode_lower (unit_at bytes unit))
