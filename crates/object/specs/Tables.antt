-- The sections of an object that contain its line number information.
use Rattle.std.specs.Prelude.{ℕ, ◌*◌, List, [], length, codes, ◌==◌, ◌&&◌, nat_le, if◌then◌else◌}
use Rattle.std.specs.Prelude.{Option, Some, None, unwrap_or}
use Rattle.std.specs.Str.{bytes_eq}
use Rattle.object.specs.Number.{number_at}
use Rattle.object.specs.First.{first_some}
use Rattle.object.specs.Section.{section_at, section_bytes, section_count, section_table, is_relocations}
use Rattle.object.specs.Symbol.{symbols_section}
use Rattle.object.specs.Relocation.{relocation_size}
use Rattle.object.specs.Numbers.{string_at}
use Rattle.object.specs.Origin.{origin_of}
use Rattle.object.specs.Rows.{Origins}

-- Returns the bytes, or no bytes if there are more than 65,536.
abbrev pub short : List ℕ → List ℕ
short bytes = if nat_le (length bytes) 65536 then bytes else []

-- Returns the bytes of the section with this index, or no bytes if there are more than 65,536.
abbrev pub bytes_of : List ℕ → ℕ → List ℕ
bytes_of object index = short (section_bytes object (section_at index (section_table object)))

-- Returns the bytes of the string table with the sections' names (e_shstrndx).
abbrev pub section_names : List ℕ → List ℕ
section_names object = section_bytes object (section_at (number_at 2 62 object) (section_table object))

-- Returns the index of the section if it has this name (sh_name).
abbrev pub named_here : List ℕ → List ℕ → List ℕ → ℕ → Option ℕ
named_here table names name index =
    if bytes_eq (string_at (number_at 4 (64 * index) table) names) name then Some index else None

-- Returns the index of the first section with this name, or 0, at which there is never one with bytes, if there is
-- none.
abbrev pub section_named : List ℕ → List ℕ → ℕ
section_named object name =
    unwrap_or (first_some (named_here (section_table object) (section_names object) name) (section_count object)) 0

-- Returns the index of the section if it has relocations of the section `home`.
abbrev pub relocates_here : List ℕ → ℕ → ℕ → Option ℕ
relocates_here table home index =
    if is_relocations (section_at index table) && ((section_at index table).info == home) then Some index else None

-- Returns the index of the first section with relocations of the section `home`, or 0 if there is none.
abbrev pub relocations_of : List ℕ → ℕ → ℕ
relocations_of object home =
    unwrap_or (first_some (relocates_here (section_table object) home) (section_count object)) 0

-- ---- line number information

-- Returns the index of .debug_line, or 0 if there is no such section.
abbrev pub lines_section : List ℕ → ℕ
lines_section object = section_named object (codes ".debug_line")

-- Returns the bytes of .debug_line.
abbrev pub lines_in : List ℕ → List ℕ
lines_in object = bytes_of object (lines_section object)

-- Returns the bytes of .debug_line_str.
abbrev pub line_strings_in : List ℕ → List ℕ
line_strings_in object = bytes_of object (section_named object (codes ".debug_line_str"))

-- Returns the bytes of .debug_str.
abbrev pub strings_in : List ℕ → List ℕ
strings_in object = bytes_of object (section_named object (codes ".debug_str"))

-- Returns the bytes of the first symbol table.
abbrev pub symbols_in : List ℕ → List ℕ
symbols_in object = section_bytes object
    (section_at (symbols_section (section_table object) (section_count object)) (section_table object))

-- Returns the addresses that operands mean in the section with this number, by the relocations in the section
-- `relocations`.
abbrev pub origins_by : List ℕ → List ℕ → ℕ → ℕ → Origins
origins_by object bytes section relocations =
    origin_of bytes (symbols_in object) section (relocation_size (section_at relocations (section_table object)))
    (bytes_of object relocations)

-- Returns the addresses that the operands of the line number program in `bytes` mean in the section with this number.
abbrev pub origins_in : List ℕ → List ℕ → ℕ → Origins
origins_in object bytes section = origins_by object bytes section (relocations_of object (lines_section object))
