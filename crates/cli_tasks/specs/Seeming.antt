-- Defines what a file seems to be that should be bytecode but is not.
use Rattle.std.specs.Prelude.{ℕ, Bool, ◌||◌, ◌==◌, nat_eq, List, ◌∷◌, length, take, Option, None, Some, codes, if◌then◌else◌}
use Rattle.std.specs.List.{list_all, starts_with}
use Rattle.std.specs.Char.{is_ascii_graphic, is_ascii_hexdigit, is_ascii_whitespace}
use Rattle.cli_tasks.specs.declared.likeness.Likeness.{Likeness}
use Rattle.cli_tasks.specs.declared.refusal.InputRefusal.{InputRefusal}
use Rattle.cli_tasks.specs.declared.refusal.InputRefusal.TheVariants.{Codec}
use Rattle.cli_tasks.specs.declared.likeness.Likeness.TheVariants.{Hex, Object, Text}

-- Checks whether a byte is a hexadecimal digit or white space.
abbrev pub is_of_hex : ℕ → Bool
is_of_hex c = is_ascii_hexdigit c || is_ascii_whitespace c

-- Checks whether a byte is a printable ASCII character or white space.
abbrev pub is_of_text : ℕ → Bool
is_of_text c = is_ascii_graphic c || is_ascii_whitespace c

-- Returns the four bytes with which an ELF object begins: the byte 127 and the letters `ELF`.
abbrev pub object_mark : List ℕ
object_mark = 127 ∷ codes "ELF"

-- Returns what the bytes seem to be. An ELF object is recognized by its first four bytes. The bytes are hex or text if
-- all of them are. Returns `None` for anything else, and if there are no bytes.
abbrev pub seems_of : List ℕ → Option Likeness
seems_of bytes =
    if length bytes == 0 then None
    else if starts_with nat_eq bytes object_mark then Some Object
    else if list_all is_of_hex bytes then Some Hex
    else if list_all is_of_text bytes then Some Text
    else None

-- Returns what the bytes seem to be. Only the first 32,768 bytes, the size of the longest program, are examined.
unfoldable pub seems_at_first : List ℕ → Option Likeness
seems_at_first bytes = seems_of (take 32768 bytes)

-- Returns what rejected bytes seem to be, if they were rejected because they are not bytecode. Returns `None` for any
-- other refusal.
abbrev pub likeness_of : InputRefusal → List ℕ → Option Likeness
likeness_of (Codec error) bytes = seems_at_first bytes
likeness_of _ bytes = None

-- Returns the line which says what the bytes seem to be.
abbrev pub seems_text : Likeness → List ℕ
seems_text Hex = codes "it seems to be bytecode in hex, which `xxd -r -p` turns into bytes"
seems_text Object = codes "it seems to be an ELF object, which `--elf` reads"
seems_text Text = codes "it seems to be text, not bytecode: `check --asm` checks assembly"
