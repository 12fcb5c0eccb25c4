-- The header of a line number program in the 32-bit format (DWARF 5, section 6.2.4; DWARF 4, section 6.2.4).
use Rattle.std.specs.Prelude.{ℕ, ◌+◌, ◌-◌, ◌^◌, List, length, Bool, ◌==◌, ◌&&◌, ◌||◌, nat_lt, nat_le, if◌then◌else◌}
use Rattle.std.specs.Prelude.{Option, Some, None}
use Rattle.object.specs.Number.{number_at}
use Rattle.object.specs.declared.header.Header.{Header}

-- Returns the byte index of the header's field minimum_instruction_length. Version 5 has two more bytes before it.
abbrev pub fields_of : ℕ → ℕ
fields_of version = if version == 5 then 12 else 10

-- Returns a byte as a signed number from -128 to 127, modulo 2^64.
abbrev pub widened : ℕ → ℕ
widened byte = if nat_lt byte 128 then byte else byte + (2 ^ 64 - 256)

-- Returns the header of this version. `fields` is the byte index of its field minimum_instruction_length, and the field
-- header_length is in the 4 bytes before it.
abbrev pub header_from : ℕ → ℕ → List ℕ → Header
header_from version fields bytes = record {
  version = version;
  shortest = number_at 1 fields bytes;
  base = widened (number_at 1 (fields + 3) bytes);
  range = number_at 1 (fields + 4) bytes;
  opcodes = number_at 1 (fields + 5) bytes;
  tables = fields + 5 + number_at 1 (fields + 5) bytes;
  program = fields + number_at 4 (fields - 4) bytes;
  end = 4 + number_at 4 0 bytes;
}

-- Returns the header at the beginning of the bytes.
abbrev pub header_in : List ℕ → Header
header_in bytes = header_from (number_at 2 4 bytes) (fields_of (number_at 2 4 bytes)) bytes

-- Returns whether the header is supported: its version is 4 or 5, an instruction has one operation, line_range is above
-- 0, opcode_base is from 1 to 13, and the tables and the program are within the bytes.
abbrev pub is_read : Header → List ℕ → Bool
is_read header bytes =
    ((header.version == 4) || (header.version == 5)) && (number_at 1 (fields_of header.version + 1) bytes == 1)
    && nat_lt 0 header.range &&
    nat_lt 0 header.opcodes && nat_le header.opcodes 13 &&
    nat_le header.tables header.program && nat_le header.program header.end && nat_le header.end (length bytes)

-- Returns the header at the beginning of the bytes, if it is supported.
abbrev pub header_of : List ℕ → Option Header
header_of bytes = if is_read (header_in bytes) bytes then Some (header_in bytes) else None
