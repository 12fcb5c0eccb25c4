-- The source file and line of each unit of a function. A unit is 8 bytes of bytecode.
use Rattle.std.specs.Prelude.{ℕ, zero, suc, Bool, ◌≡◌, ◌+◌, ◌-◌, ◌*◌, ◌/◌, ◌%◌, ◌^◌, ◌⊎◌, List, [], ◌∷◌, ◌++◌, length, take, slice_get, min, codes, decimal}
use Rattle.std.specs.Prelude.{◌==◌, ◌&&◌, not, nat_lt, nat_le, if◌then◌else◌, Option, Some, None}
use Rattle.std.specs.Prelude.{Result, Ok, Err}
use Rattle.object.specs.declared.fault.ObjectFault.{ObjectFault}
use Rattle.object.specs.declared.symbol.Symbol.{Symbol}
use Rattle.object.specs.First.{first_some}
use Rattle.object.specs.declared.header.Header.{Header}
use Rattle.object.specs.declared.registers.LineRow.{LineRow}
use Rattle.object.specs.Header.{header_of}
use Rattle.object.specs.Rows.{Origins, HasRows, BreaksOff}
use Rattle.object.specs.Names.{path_of, name_by, is_plain}
use Rattle.object.specs.Tables.{lines_in, line_strings_in, strings_in, origins_in}

-- ---- rows

-- States that these are the rows of a line number program with this header. There are none if its last instruction is
-- not complete.
abbrev pub AreRowsBy : Header → List ℕ → Origins → List LineRow → Type 0
AreRowsBy header bytes origins rows = HasRows header bytes origins rows ⊎ (BreaksOff header bytes origins × (rows ≡ []))

-- States that these are the rows of an object's line number program. There are none if it has no supported header.
abbrev pub AreRows : List ℕ → ℕ → Option Header → List LineRow → Type 0
AreRows object section None rows = rows ≡ []
AreRows object section (Some header) rows =
    AreRowsBy header (take header.end (lines_in object))
    (origins_in object (take header.end (lines_in object)) section) rows

-- Returns whether the row gives the file and line of this address: the address is at or after the row, and before
-- `next`, the next row of the same sequence.
abbrev pub is_of : ℕ → LineRow → LineRow → Bool
is_of address row next =
    row.registers.inside && not row.last && nat_le row.registers.address address
    && nat_lt address next.registers.address

-- Returns the row if it gives the file and line of this address.
abbrev pub row_by : ℕ → Option LineRow → Option LineRow → Option LineRow
row_by address (Some row) (Some next) = if is_of address row next then Some row else None
row_by address _ _ = None

-- Returns the row with this index if it gives the file and line of this address.
abbrev pub row_here : List LineRow → ℕ → ℕ → Option LineRow
row_here rows address index = row_by address (slice_get rows index) (slice_get rows (index + 1))

-- Returns the first row that gives the file and line of this address.
abbrev pub row_of : List LineRow → ℕ → Option LineRow
row_of rows address = first_some (row_here rows address) (length rows - 1)

-- ---- text

-- Returns the path of the file with this number.
abbrev pub name_in : List ℕ → Option Header → ℕ → List ℕ
name_in object None file = []
name_in object (Some header) file =
    name_by (take header.program (lines_in object)) (line_strings_in object) (strings_in object)
    (path_of header (take header.program (lines_in object)) file)

-- Returns the text `FILE:LINE`, or an empty text if the name cannot be printed on a line.
abbrev pub told : List ℕ → ℕ → List ℕ
told name line = if is_plain name then name ++ codes ":" ++ decimal line else []

-- Returns the file and line of a row as text, or an empty text if there is no row or its line is 0.
abbrev pub told_of : (ℕ → List ℕ) → Option LineRow → List ℕ
told_of names None = []
told_of names (Some row) = if row.registers.line == 0 then [] else told (names row.registers.file) row.registers.line

-- Returns the file and line of a unit as text. The function begins at the address `start`.
abbrev pub text_at : (ℕ → List ℕ) → List LineRow → ℕ → ℕ → List ℕ
text_at names rows start unit = told_of names (row_of rows ((start + 8 * unit) % 2 ^ 64))

-- Returns the file and line of each of the first `n` units as text. The function begins at the address `start`.
unfoldable pub texts_of : (ℕ → List ℕ) → List LineRow → ℕ → ℕ → List (List ℕ)
texts_of names rows start zero = []
texts_of names rows start (suc n) = texts_of names rows start n ++ text_at names rows start n ∷ []

-- States that the texts are the file and line of each unit of the function, for up to 4,096 units. A text is empty if
-- they are not known.
abbrev pub TellsPlaces : List ℕ → Symbol → List (List ℕ) → Type 0
TellsPlaces object function texts =
    (rows : List LineRow) × AreRows object function.section (header_of (lines_in object)) rows
    × (texts ≡ texts_of (name_in object (header_of (lines_in object))) rows function.value
    (min (function.size / 8) 4096))

-- States that the texts are the file and line of each unit of the entry function. There are none if the object has no
-- such function.
abbrev pub AreEntryPlaces : List ℕ → Result Symbol ObjectFault → List (List ℕ) → Type 0
AreEntryPlaces object (Ok function) texts = TellsPlaces object function texts
AreEntryPlaces object (Err fault) texts = texts ≡ []
