-- What an explanation says of a rejected file besides the sentence, as JSON members: the help with its edit, and of a
-- program the rejected instruction, the notes, and what is known at each instruction (own).
use Rattle.std.specs.Prelude.{ℕ, ◌==◌, ◌||◌, not, Bool, true, false, if◌then◌else◌, List, [], ◌∷◌, drop, take, length, slice_index, Option, None, Some, option_and_then, option_map, bytes_eq, codes}
use Rattle.std.specs.Option.{option_or}
use Rattle.std.specs.Str.Lossy.{utf8_lossy}
use Rattle.serde_json.specs.Data.{Data, array, boolean, number, object, string, unsigned, Items, no_items, item, Members, no_members, put}
use Rattle.text.specs.declared.stop.Stop.{Stop}
use Rattle.text.specs.declared.stop.Stop.TheVariants.{Byte, Solid}
use Rattle.text.specs.Parts.{before, from, pieces}
use Rattle.text.specs.Stop.{colon, semicolon, space}
use Rattle.cli_answers.specs.Instructions.{behind_place, each, instruction_object, unit_of, with_unit}
use Rattle.cli_answers.specs.Texts.{behind_stop, with_text}
use Rattle.cli_answers.specs.Values.{Word, small}

-- ---- the help

-- Returns the text after the words `help: ` or ` = help: ` at the start of a line, or None if there are none.
abbrev pub help_in : List ℕ → Option (List ℕ)
help_in line =
    if bytes_eq (take 6 line) (codes "help: ") then Some (drop 6 line)
    else if bytes_eq (take 8 (from Solid line)) (codes "= help: ") then Some (drop 8 (from Solid line)) else None

-- Returns the help of the first line that has one.
abbrev pub help_of : List (List ℕ) → Option (List ℕ)
help_of [] = None
help_of (line ∷ lines) = option_or (help_in line) (help_of lines)

-- The stop at a backquote.
abbrev pub quote : Stop
quote = Byte 96

-- Returns the second of the pieces, the fourth and so on, which were between backquotes.
abbrev pub instructions : List Word → Items
instructions (front ∷ quoted ∷ more) = item (string (utf8_lossy quoted)) (instructions more)
instructions _ = no_items

-- Returns the last of the pieces.
abbrev pub last_piece : List Word → Word
last_piece [] = []
last_piece (piece ∷ []) = piece
last_piece (piece ∷ next ∷ more) = last_piece (next ∷ more)

-- Returns the unit before which a help puts its instructions, or None if it puts them elsewhere.
abbrev pub unit_before : List ℕ → Option ℕ
unit_before text =
    if bytes_eq (take 13 text) (codes " before unit ") then small (before space (drop 13 text)) else None

-- Returns the unit in whose place a help puts its instructions, or None if it puts them elsewhere.
abbrev pub unit_replaced : List ℕ → Option ℕ
unit_replaced text =
    if bytes_eq (take 18 text) (codes " in place of unit ") then small (before space (drop 18 text)) else None

-- Returns the JSON object of an edit: the instructions, and the unit before which, or instead of which, they are put.
abbrev pub edit : Items → Bool → ℕ → Data
edit ds instead unit =
    object (put (codes "unit") (number (unsigned unit))
    (put (codes "instructions") (array ds) (put (codes "instead") (boolean instead) no_members)))

-- Returns the edit with these instructions. The text after them says where they are put.
abbrev pub edit_by : Items → List ℕ → Option Data
edit_by ds text = option_or (option_map (edit ds false) (unit_before text)) (option_map (edit ds true) (unit_replaced text))

-- Returns the edit that a help describes, or None if it describes none.
unfoldable pub edit_of : List ℕ → Option Data
edit_of help =
    if bytes_eq (before quote help) (codes "with ")
    then edit_by (instructions (pieces quote help)) (last_piece (pieces quote help)) else None

-- Adds an edit, or nothing for None.
abbrev pub with_edit : Option Data → Members → Members
with_edit None ms = ms
with_edit (Some d) ms = put (codes "edit") d ms

-- Adds a help and its edit, or nothing for None.
abbrev pub with_help : Option (List ℕ) → Members → Members
with_help None ms = ms
with_help (Some help) ms = with_edit (edit_of help) (with_text (codes "help") help ms)

-- ---- the verifier's explanation

-- Returns the note that a line has, or None if it has none.
abbrev pub note_of : Word → Option Data
note_of line = if bytes_eq (take 6 line) (codes "note: ") then Some (string (utf8_lossy (drop 6 line))) else None

-- Returns whether a text has a colon.
abbrev pub has_colon : List ℕ → Bool
has_colon text = not (length (from colon text) == 0)

-- Returns whether a line says what is known at an instruction, by the text after the unit and the place. In the excerpt
-- of a report this begins with a vertical bar, and where the verifier says why, the instruction ends with a colon.
abbrev pub is_fact : List ℕ → Bool
is_fact text = not (slice_index text 0 == 124 || has_colon (before semicolon text))

-- Returns the JSON object of a line that says what is known at an instruction, or None for another line.
abbrev pub fact_of : Word → Option Data
fact_of line =
    if is_fact (behind_place (behind_stop space line)) then option_map object (instruction_object line) else None

-- Adds an instruction, and the sentence after the colon behind it.
abbrev pub with_judged : List ℕ → Members → Members
with_judged text ms =
    with_text (codes "sentence") (drop 2 (from colon text)) (with_text (codes "instruction") (before colon text) ms)

-- Returns the JSON object of a line `UNIT (PLACE) INSTRUCTION: SENTENCE`, at this unit.
abbrev pub judged_at : List ℕ → ℕ → Data
judged_at text unit = object (with_judged (behind_place text) (with_unit unit text no_members))

-- Returns the JSON object of a line that says why an instruction is rejected, or None if it begins with no number.
unfoldable pub judged_of : List ℕ → Option Data
judged_of line = option_map (judged_at (behind_stop space line)) (unit_of line)

-- Adds why an instruction is rejected, the notes, and what is known at each instruction. Adds nothing for None.
abbrev pub with_judgement : Option Data → List (List ℕ) → Members → Members
with_judgement None lines ms = ms
with_judgement (Some why) lines ms =
    put (codes "facts") (array (each fact_of lines)) (put (codes "notes") (array (each note_of lines)) (put (codes "why") why ms))

-- Adds what the verifier's explanation says. `why` is its line that says why an instruction is rejected.
abbrev pub with_explanation : Option (List ℕ) → List (List ℕ) → Members → Members
with_explanation why lines ms = with_judgement (option_and_then judged_of why) lines ms
