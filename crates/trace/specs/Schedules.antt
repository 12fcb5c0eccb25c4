-- The text of a schedule: a line for each round, with entries separated by spaces (own).
use Rattle.std.specs.Prelude.{ℕ, suc, ◌&&◌, nat_lt, nat_le, if◌then◌else◌, List, [], ◌∷◌, ◌++◌, length, Option, Some, None, Result, Ok, Err}
use Rattle.text.specs.declared.stop.Stop.{Stop}
use Rattle.text.specs.declared.stop.Stop.TheVariants.{Byte}
use Rattle.text.specs.Options.{◌>>=◌}
use Rattle.text.specs.Stop.{space}
use Rattle.text.specs.Parts.{pieces, lines_of}
use Rattle.text.specs.Number.{decimal_of}
use Rattle.world.specs.declared.schedule.Repeat.{Repeat}
use Rattle.trace.specs.declared.fault.TraceFault.TheVariants.{Line}
use Rattle.trace.specs.declared.fault.TraceError.{TraceError}
use Rattle.trace.specs.declared.fault.TraceError.TheVariants.{At}

abbrev pub star : Stop
star = Byte 42

-- Returns the number that a text spells in decimal, without leading zeros, or `None` if it is not a number from `least`
-- to `most`.
unfoldable pub number_within : ℕ → ℕ → List ℕ → Option ℕ
number_within least most part = decimal_of part >>= λ n. if nat_le least n && nat_le n most then Some n else None

-- Returns the entry that a text describes, given its parts between stars: `G`, or `G*K` for general G, K times. Returns
-- `None` if it is neither.
abbrev pub entry_of : List (List ℕ) → Option Repeat
entry_of (g ∷ []) = number_within 0 12 g >>= λ general. Some (record { general = general; times = 1 })
entry_of (g ∷ k ∷ []) = number_within 0 12 g >>= λ general. number_within 1 4096 k >>= λ times. Some (record {
  general =
      general;
  times = times;
})
entry_of _ = None

-- Returns the entries `before`, followed by the entries that these parts of a line describe. Returns `None` if a part
-- is not an entry.
abbrev pub entries_told : List Repeat → List (List ℕ) → Option (List Repeat)
entries_told before [] = Some before
entries_told before (part ∷ parts) = entry_of (pieces star part) >>= λ entry. entries_told (before ++ entry ∷ []) parts

-- Returns the entries of a line, which may be empty, or `None` if the line is not a list of entries.
abbrev pub line_told : List ℕ → Option (List Repeat)
line_told [] = Some []
line_told (c ∷ cs) = entries_told [] (pieces space (c ∷ cs))

-- Returns the result of reading a schedule from this line on. `rest` reads the lines after it. The fault is in this
-- line if it is not a list of entries (`None`), or if its number is above 5.
abbrev pub with_line_told : ℕ → Option (List Repeat) → (List Repeat → Result (List (List Repeat)) TraceError) →
    Result (List (List Repeat)) TraceError
with_line_told number None rest = Err (At Line number)
with_line_told number (Some entries) rest = if nat_lt 5 number then Err (At Line number) else rest entries

-- Returns the entries `before` of earlier lines, followed by the entries of the lines from this number on, or the first
-- fault.
abbrev pub schedule_lines_told : List (List Repeat) → ℕ → List (List ℕ) → Result (List (List Repeat)) TraceError
schedule_lines_told before number [] = Ok before
schedule_lines_told before number (line ∷ lines) =
    with_line_told number (line_told line) (λ entries. schedule_lines_told (before ++ entries ∷ []) (suc number) lines)

-- Returns the schedule that a text describes, or the first line with a fault. A text may have at most 1,048,576 bytes.
unfoldable pub schedule_told : List ℕ → Result (List (List Repeat)) TraceError
schedule_told text = if nat_le (length text) 1048576 then schedule_lines_told [] 1 (lines_of text) else Err (At Line 1)
