-- A line about an instruction as JSON members: its unit, its place in the source text, the instruction, what it reads,
-- and what it gives (own). Such a line is `UNIT (PLACE) INSTRUCTION ; READ ; READ -> GIVEN ; GIVEN`.
use Rattle.std.specs.Prelude.{ℕ, ◌==◌, ◌-◌, ◌&&◌, not, Bool, if◌then◌else◌, List, [], ◌∷◌, drop, take, length, slice_index, Option, None, Some, option_and_then, option_map, bytes_eq, codes}
use Rattle.std.specs.Str.Lossy.{utf8_lossy}
use Rattle.serde_json.specs.Data.{Data, array, string, Items, no_items, item, Members, put}
use Rattle.text.specs.declared.stop.Stop.{Stop}
use Rattle.text.specs.declared.stop.Stop.TheVariants.{Byte}
use Rattle.text.specs.Parts.{before, from, pieces}
use Rattle.text.specs.Stop.{semicolon, space}
use Rattle.cli_answers.specs.Labels.{with_number}
use Rattle.cli_answers.specs.Texts.{behind_stop, called, with_text}
use Rattle.cli_answers.specs.Values.{Word, small}

-- The stop at the point of an arrow.
abbrev pub arrow : Stop
arrow = Byte 62

-- The stop at a closing bracket.
abbrev pub closing : Stop
closing = Byte 41

-- Returns a text without the space at its start, if it has one.
abbrev pub without_space : List ℕ → List ℕ
without_space text = if slice_index text 0 == 32 then drop 1 text else text

-- Returns a text without this end, if it ends so.
abbrev pub without_end : List ℕ → List ℕ → List ℕ
without_end end text =
    if bytes_eq (drop (length text - length end) text) end then take (length text - length end) text else text

-- Returns a text without the spaces at its start and end, and without the shaft of an arrow at its end.
abbrev pub trimmed : List ℕ → List ℕ
trimmed text = without_end (codes " ") (without_end (codes " -") (without_space text))

-- Returns the JSON text of a part of a line, or None if the part is empty.
abbrev pub shown : Word → Option Data
shown part = if length (trimmed part) == 0 then None else Some (string (utf8_lossy (trimmed part)))

-- Adds a value as the first element, or nothing for None.
abbrev pub with_item : Option Data → Items → Items
with_item None ds = ds
with_item (Some d) ds = item d ds

-- Returns the values of those words that have one.
abbrev pub each : (Word → Option Data) → List Word → Items
each f [] = no_items
each f (w ∷ ws) = with_item (f w) (each f ws)

-- Adds an instruction, what it reads and what it gives. The first part of a line is the instruction, and the others are
-- what it reads.
abbrev pub with_parts : List Word → List Word → Members → Members
with_parts [] gives ms = ms
with_parts (instruction ∷ reads) gives ms =
    put (codes "gives") (array (each shown gives))
    (put (codes "reads") (array (each shown reads))
    (with_text (codes "instruction") (trimmed instruction) ms))

-- Adds the instruction of a line, what it reads before an arrow, and what it gives after it.
unfoldable pub with_instruction : List ℕ → Members → Members
with_instruction text ms = with_parts (pieces semicolon (before arrow text)) (pieces semicolon (behind_stop arrow text)) ms

-- Returns the place in brackets at the start of a text, or None if there is none.
abbrev pub place_in : List ℕ → Option (List ℕ)
place_in text = if slice_index text 0 == 40 then Some (before closing (drop 1 text)) else None

-- Returns the text after the place in brackets and a space.
abbrev pub behind_place : List ℕ → List ℕ
behind_place text = if slice_index text 0 == 40 then drop 2 (from closing (drop 1 text)) else text

-- Returns the number of a line of the source text, if the place is such a line.
abbrev pub line_in : List ℕ → Option ℕ
line_in place = if bytes_eq (take 5 place) (codes "line ") then small (drop 5 place) else None

-- Adds the number of a line of the source text, or nothing for None.
abbrev pub with_source_line : Option ℕ → Members → Members
with_source_line None ms = ms
with_source_line (Some n) ms = with_number (codes "source_line") n ms

-- Adds a place, and the number of its line if it is a line of the source text. Adds nothing for None.
abbrev pub with_source : Option (List ℕ) → Members → Members
with_source None ms = ms
with_source (Some place) ms = with_source_line (line_in place) (with_text (codes "place") place ms)

-- Returns the unit at which a line begins, or None if it begins with no number.
abbrev pub unit_of : List ℕ → Option ℕ
unit_of line = small (before space line)

-- Adds a unit and the place after it.
abbrev pub with_unit : ℕ → List ℕ → Members → Members
with_unit unit text ms = with_source (place_in text) (with_number (codes "unit") unit ms)

-- Returns the members of a line about the instruction at a unit.
abbrev pub instruction_at : List ℕ → ℕ → Members
instruction_at text unit = with_instruction (behind_place text) (with_unit unit text (called (codes "instruction")))

-- Returns the members of a line about an instruction, or None if the line begins with no number.
unfoldable pub instruction_object : List ℕ → Option Members
instruction_object line = option_map (instruction_at (behind_stop space line)) (unit_of line)
