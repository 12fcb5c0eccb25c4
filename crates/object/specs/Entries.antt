-- The tables of directories and files (DWARF 5, section 6.2.4.1). A table has formats, each of which says what a value
-- is (its content) and how it is encoded (its form). Each entry has one value in each format.
use Rattle.std.specs.Prelude.{ℕ, zero, suc, ◌+◌, List, length, ◌==◌, ◌||◌, nat_lt, nat_le, if◌then◌else◌}
use Rattle.std.specs.Prelude.{Option, Some, None, option_map, option_and_then}
use Rattle.object.specs.Number.{number_at}
use Rattle.object.specs.declared.leb128.Read.{Read}
use Rattle.object.specs.declared.entries.Format.{Format}
use Rattle.object.specs.declared.entries.EntryTable.{EntryTable}
use Rattle.object.specs.declared.entries.Path.{Path}
use Rattle.object.specs.Numbers.{unsigned_at, string_at}

-- Returns the number of bytes of a value in this form, or 0 if the form has no fixed size: DW_FORM_data1, data2, data4,
-- data8 and data16, and the offsets of DW_FORM_strp and DW_FORM_line_strp.
abbrev pub size_of : ℕ → ℕ
size_of form =
    if form == 0x0b then 1 else if form == 0x05 then 2 else if (form == 0x06) || (form == 0x0e) || (form == 0x1f) then 4
    else if form == 0x07 then 8 else if form == 0x1e then 16 else 0

-- Returns `place` if it is at most the length of `bytes`.
abbrev pub within : List ℕ → ℕ → Option ℕ
within bytes place = if nat_le place (length bytes) then Some place else None

-- Returns the byte index after a block, whose size was read: `size.value` bytes from index `size.next` on.
abbrev pub block_end : List ℕ → Read → Option ℕ
block_end bytes size = within bytes (size.next + size.value)

-- Returns the byte index after the block at index `place`: a number of bytes in LEB128, and then that number of bytes.
abbrev pub behind_block : ℕ → List ℕ → Option ℕ
behind_block place bytes = option_and_then (block_end bytes) (unsigned_at place bytes)

-- Returns the byte index after the LEB128 number at index `place`.
abbrev pub behind_number : ℕ → List ℕ → Option ℕ
behind_number place bytes = option_map (λ number. number.next) (unsigned_at place bytes)

-- Returns the byte index after the value at index `place`, in a form without fixed size: DW_FORM_string, which ends
-- with a zero, DW_FORM_udata, or DW_FORM_block.
abbrev pub behind_varying : ℕ → ℕ → List ℕ → Option ℕ
behind_varying form place bytes =
    if form == 0x08 then within bytes (place + length (string_at place bytes) + 1)
    else if form == 0x0f then behind_number place bytes
    else if form == 0x09 then behind_block place bytes
    else None

-- Returns the byte index after the value at index `place`, in this form.
abbrev pub behind_value : ℕ → ℕ → List ℕ → Option ℕ
behind_value form place bytes =
    if nat_lt 0 (size_of form) then within bytes (place + size_of form) else behind_varying form place bytes

-- Returns the format with this content and the form that was read.
abbrev pub format_by : ℕ → Read → Format
format_by content form = record { content = content; form = form.value; next = form.next }

-- Returns the format whose content was read: reads the form after it.
abbrev pub format_behind : List ℕ → Read → Option Format
format_behind formats content = option_map (format_by content.value) (unsigned_at content.next formats)

-- Returns the format at the byte index `place`.
abbrev pub format_at : ℕ → List ℕ → Option Format
format_at place formats = option_and_then (format_behind formats) (unsigned_at place formats)

-- Returns the byte index after the `n` formats that begin at index `place`.
unfoldable pub behind_formats : ℕ → ℕ → List ℕ → Option ℕ
behind_formats zero place formats = Some place
behind_formats (suc n) place formats =
    option_and_then (λ format. behind_formats n format.next formats) (format_at place formats)

-- Returns what `next` finds, given the byte index of the next format and the index after a value of this format.
abbrev pub behind_then : {A : Type 0} → (ℕ → ℕ → Option A) → List ℕ → ℕ → Format → Option A
behind_then next bytes place format = option_and_then (next format.next) (behind_value format.form place bytes)

-- Returns the byte index after the entry at index `place`, which has `n` values. Their formats begin at index `from`.
unfoldable pub behind_entry : ℕ → List ℕ → ℕ → List ℕ → ℕ → Option ℕ
behind_entry zero formats from bytes place = Some place
behind_entry (suc n) formats from bytes place =
    option_and_then (behind_then (λ next. behind_entry n formats next bytes) bytes place) (format_at from formats)

-- Returns the value of this format if it is the path, and otherwise what `next` finds after it.
abbrev pub path_by : (ℕ → ℕ → Option Path) → List ℕ → ℕ → Format → Option Path
path_by next bytes place format =
    if format.content == 1 then Some (record { form = format.form; place = place })
    else behind_then next bytes place format

-- Returns where the path of the entry at index `place` is: its value whose content is the path (DW_LNCT_path). The
-- entry has `n` values, whose formats begin at index `from`.
unfoldable pub path_in : ℕ → List ℕ → ℕ → List ℕ → ℕ → Option Path
path_in zero formats from bytes place = None
path_in (suc n) formats from bytes place =
    option_and_then (path_by (λ next. path_in n formats next bytes) bytes place) (format_at from formats)

-- Returns the byte index after `n` entries, the first of which begins at index `place`. Each has `count` values.
unfoldable pub behind_entries : ℕ → ℕ → List ℕ → ℕ → List ℕ → ℕ → Option ℕ
behind_entries zero count formats from bytes place = Some place
behind_entries (suc n) count formats from bytes place =
    option_and_then (behind_entries n count formats from bytes) (behind_entry count formats from bytes place)

-- Returns the header of a table with formats from index `from` on, whose number of entries was read. There cannot be
-- more entries than bytes.
abbrev pub entries_by : ℕ → ℕ → List ℕ → Read → Option EntryTable
entries_by formats from bytes count =
    if nat_le count.value (length bytes)
    then Some (record { formats = formats; from = from; count = count.value; first = count.next }) else None

-- Returns the header of a table whose formats end at the byte index `next`, where the number of entries is.
abbrev pub entries_behind : ℕ → ℕ → List ℕ → ℕ → Option EntryTable
entries_behind formats from bytes next = option_and_then (entries_by formats from bytes) (unsigned_at next bytes)

-- Returns the header of the table at the byte index `place`: a byte with the number of formats, the formats, and the
-- number of entries. The entries follow.
abbrev pub entries_at : ℕ → List ℕ → Option EntryTable
entries_at place bytes =
    option_and_then (entries_behind (number_at 1 place bytes) (place + 1) bytes)
    (behind_formats (number_at 1 place bytes) (place + 1) bytes)
