-- The numbers and strings of line number information (DWARF 5, sections 7.6 and 7.5.5).
use Rattle.std.specs.Prelude.{ℕ, zero, suc, ◌+◌, ◌-◌, ◌*◌, ◌%◌, ◌^◌, List, length, drop, Bool, false, true, ◌&&◌, nat_lt, nat_le, if◌then◌else◌}
use Rattle.std.specs.Prelude.{Option, Some, None, option_map}
use Rattle.text.specs.declared.stop.Stop.TheVariants.{Byte}
use Rattle.text.specs.Parts.{before}
use Rattle.object.specs.Number.{number_at}
use Rattle.object.specs.declared.leb128.Read.{Read}

-- Returns the value of the last byte of a LEB128 number. In a signed number, a byte of 64 or more means the byte - 128,
-- modulo 2^64.
abbrev pub last_byte : Bool → ℕ → ℕ
last_byte signed byte = if signed && nat_le 64 byte then byte + (2 ^ 64 - 128) else byte

-- Prepends a byte of 128 or more to a LEB128 number: the low seven bits of the result are those of the byte, and the
-- higher bits are the number `more`, modulo 2^64.
abbrev pub joined : ℕ → Read → Read
joined byte more = record { value = (more.value * 128 % 2 ^ 64 + (byte - 128)) % 2 ^ 64; next = more.next }

-- Returns the LEB128 number at index `place`. `more` is the number that begins at the next index, if there is one.
abbrev pub number_on : Bool → ℕ → List ℕ → Option Read → Option Read
number_on signed place bytes more =
    if nat_le (length bytes) place then None
    else if nat_lt (number_at 1 place bytes) 128
    then Some (record { value = last_byte signed (number_at 1 place bytes); next = place + 1 })
    else option_map (joined (number_at 1 place bytes)) more

-- Returns the LEB128 number at the byte index `place`, modulo 2^64, and the byte index after it. The number has at most
-- `most` bytes.
unfoldable pub number_in : Bool → ℕ → ℕ → List ℕ → Option Read
number_in signed zero place bytes = None
number_in signed (suc most) place bytes = number_on signed place bytes (number_in signed most (place + 1) bytes)

-- Returns the unsigned LEB128 number at the given byte index, of at most 10 bytes, and the byte index after it.
abbrev pub unsigned_at : ℕ → List ℕ → Option Read
unsigned_at = number_in false 10

-- Returns the signed LEB128 number at the given byte index, of at most 10 bytes, and the byte index after it.
abbrev pub signed_at : ℕ → List ℕ → Option Read
signed_at = number_in true 10

-- Returns the bytes from index `place` on, up to but not including the first zero.
abbrev pub string_at : ℕ → List ℕ → List ℕ
string_at place bytes = before (Byte 0) (drop place bytes)
