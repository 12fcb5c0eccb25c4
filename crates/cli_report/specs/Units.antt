-- Defines the line of an assembly text in which a unit is written (own).
use Rattle.std.specs.Prelude.{ℕ, ◌≡◌, ◌^◌, nat_lt, if◌then◌else◌, List, Option, None, Some, String, drop, map, slice_get, string_bytes}
use Rattle.std.specs.declared.alloc.Global.{Global}
use Rattle.text.specs.Number.{digits_on}
use Rattle.asm.specs.Places.{AreWritten}
use Rattle.asm.specs.Program.{lines_of, nothing, read_on}

-- Returns the number, or 0 if it is 2^64 or more. The numbers of lines are less.
abbrev pub as_line : ℕ → ℕ
as_line number = if nat_lt number (2 ^ 64) then number else 0

-- Returns the number if there is one and it is less than 2^64, and otherwise 0.
abbrev pub line_in : Option ℕ → ℕ
line_in None = 0
line_in (Some number) = as_line number

-- Returns the number N in the text `line N`, or 0 if there is none.
abbrev pub number_in : List ℕ → ℕ
number_in place = line_in (digits_on 10 0 (drop 5 place))

-- Returns the number N in a place, which is the text `line N`, or 0 if there is no place.
abbrev pub place_number : Option (String Global) → ℕ
place_number None = 0
place_number (Some place) = number_in (string_bytes place)

-- Returns the number of the line with unit `unit`, counted from 0, or 0 if there is no such unit. `places` has the text
-- `line N` for each unit.
abbrev pub unit_line : List (String Global) → ℕ → ℕ
unit_line places unit = place_number (slice_get places unit)

-- States that `number` is the number of the line in which unit `unit` of an assembly text is written, or 0 if there is
-- no such unit.
abbrev pub IsUnitLine : List ℕ → ℕ → ℕ → Type 0
IsUnitLine text unit number = (places : List (String Global))
    × AreWritten (read_on nothing 1 (lines_of text)) (map string_bytes places) × (number ≡ unit_line places unit)
