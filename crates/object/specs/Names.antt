-- The name of a file by its number (DWARF 5, sections 6.2.4 and 6.2.4.1; DWARF 4, section 6.2.4).
use Rattle.std.specs.Prelude.{ℕ, ◌+◌, ◌-◌, List, [], ◌∷◌, length, Bool, ◌==◌, ◌&&◌, ◌||◌, nat_lt, nat_le, if◌then◌else◌}
use Rattle.std.specs.Prelude.{Option, Some, None, option_and_then}
use Rattle.std.specs.List.{list_all}
use Rattle.object.specs.Number.{number_at}
use Rattle.object.specs.First.{first_some}
use Rattle.object.specs.declared.header.Header.{Header}
use Rattle.object.specs.declared.entries.EntryTable.{EntryTable}
use Rattle.object.specs.declared.entries.Path.{Path}
use Rattle.object.specs.Numbers.{string_at}
use Rattle.object.specs.Entries.{entries_at, behind_entries, path_in}

-- ---- version 5: a table of directories, and then one of files, which are counted from 0

-- Returns where the path is in the entry at the byte index `place`.
abbrev pub path_of_entry : List ℕ → EntryTable → ℕ → Option Path
path_of_entry bytes files place = path_in files.formats bytes files.from bytes place

-- Returns where the path of the file with this number is. `files` is the header of the table of files.
abbrev pub path_among : List ℕ → ℕ → EntryTable → Option Path
path_among bytes file files =
    if nat_lt file files.count
    then option_and_then (path_of_entry bytes files)
    (behind_entries file files.formats bytes files.from bytes files.first)
    else None

-- Returns the header of the table of files, which follows the table of directories.
abbrev pub files_behind : List ℕ → EntryTable → Option EntryTable
files_behind bytes directories =
    option_and_then (λ place. entries_at place bytes)
    (behind_entries directories.count directories.formats bytes directories.from bytes directories.first)

-- Returns the header of the table of files. `tables` is the byte index of the table of directories.
abbrev pub files_at : ℕ → List ℕ → Option EntryTable
files_at tables bytes = option_and_then (files_behind bytes) (entries_at tables bytes)

-- Returns where the path of the file with this number is, in version 5.
abbrev pub path_in_five : ℕ → List ℕ → ℕ → Option Path
path_in_five tables bytes file = option_and_then (path_among bytes file) (files_at tables bytes)

-- ---- version 4: the directories are strings up to an empty one; the files follow, which are counted from 1

-- The formats of version 4's files, written as in version 5: the path (DW_FORM_string), and the directory, time and
-- size (DW_FORM_udata).
abbrev pub file_formats : List ℕ
file_formats = 1 ∷ 8 ∷ 2 ∷ 15 ∷ 3 ∷ 15 ∷ 4 ∷ 15 ∷ []

-- Returns the byte index `tables` + `n` if an empty string begins there. The strings end with a zero each, and the
-- first begins at index `tables`.
abbrev pub empty_here : ℕ → List ℕ → ℕ → Option ℕ
empty_here tables bytes n =
    if (number_at 1 (tables + n) bytes == 0) && ((n == 0) || (number_at 1 (tables + n - 1) bytes == 0))
    then Some (tables + n) else None

-- Returns the byte index of the empty string that ends the directories. They begin at index `tables`.
abbrev pub directories_end : ℕ → List ℕ → Option ℕ
directories_end tables bytes = first_some (empty_here tables bytes) (length bytes - tables)

-- Returns where the path of the file after the first `before` files is. The list of files begins after the byte index
-- `end`.
abbrev pub path_behind : List ℕ → ℕ → ℕ → Option Path
path_behind bytes before end =
    option_and_then (path_in 4 file_formats 0 bytes) (behind_entries before 4 file_formats 0 bytes (end + 1))

-- Returns where the path of the file with this number is, in version 4.
abbrev pub path_in_four : ℕ → List ℕ → ℕ → Option Path
path_in_four tables bytes file =
    if (file == 0) || nat_lt (length bytes) file then None
    else option_and_then (path_behind bytes (file - 1)) (directories_end tables bytes)

-- ---- the name

-- Returns where the path of the file with this number is, in the header's version of DWARF.
abbrev pub path_of : Header → List ℕ → ℕ → Option Path
path_of header bytes file =
    if header.version == 5 then path_in_five header.tables bytes file else path_in_four header.tables bytes file

-- Returns the path's bytes. They are in `bytes` (DW_FORM_string), or at an offset in a section of strings
-- (DW_FORM_line_strp, DW_FORM_strp), to which a relocation adds the section's symbol, which is 0.
abbrev pub name_at : List ℕ → List ℕ → List ℕ → Path → List ℕ
name_at bytes line_strings strings path =
    if path.form == 0x08 then string_at path.place bytes
    else if path.form == 0x1f then string_at (number_at 4 path.place bytes) line_strings
    else if path.form == 0x0e then string_at (number_at 4 path.place bytes) strings
    else []

-- Returns the path's bytes, or no bytes if there is no path.
abbrev pub name_by : List ℕ → List ℕ → List ℕ → Option Path → List ℕ
name_by bytes line_strings strings None = []
name_by bytes line_strings strings (Some path) = name_at bytes line_strings strings path

-- Returns whether the byte is a visible ASCII character or a space.
abbrev pub is_visible : ℕ → Bool
is_visible byte = nat_le 32 byte && nat_lt byte 127

-- Returns whether the name can be printed on a line: it has 1 to 255 visible ASCII characters or spaces.
abbrev pub is_plain : List ℕ → Bool
is_plain name = nat_lt 0 (length name) && nat_le (length name) 255 && list_all is_visible name
