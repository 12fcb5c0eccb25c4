-- Defines how the line of a key is found in a TOML text, by a search line by line. The keys of a traitor's table follow
-- its header `[[traitor]]` (own).
use Rattle.std.specs.Prelude.{ℕ, List, [], ◌∷◌, Bool, true, ◌+◌, ◌-◌, ◌==◌, ◌&&◌, ◌||◌, nat_eq, if◌then◌else◌, Option, None, Some, codes, drop, length}
use Rattle.std.specs.List.{starts_with}
use Rattle.std.specs.Str.{bytes_eq}
use Rattle.std.specs.Fmt.{decimal}
use Rattle.text.specs.declared.stop.Stop.{Stop}
use Rattle.text.specs.declared.stop.Stop.TheVariants.{Byte, Solid}
use Rattle.text.specs.Parts.{before, from, lines_of, until}
use Rattle.cli_report.specs.declared.keys.Found.{Found as Kept}
use Rattle.cli_report.specs.Lines.{all_marked, is_white, marked, trimmed}
use Rattle.cli_report.specs.Report.{Mark}

-- The header that begins a traitor's table.
abbrev pub header : List ℕ
header = codes "[[traitor]]"

-- Checks whether these bytes end the word before them: they are empty, or begin with `=`, `#` or white space.
abbrev pub ends_word : List ℕ → Bool
ends_word [] = true
ends_word (c ∷ cs) = c == 61 || c == 35 || is_white c

-- Checks whether the first word of a line is `word`.
abbrev pub begins_with : List ℕ → List ℕ → Bool
begins_with word line = starts_with nat_eq (from Solid line) word && ends_word (drop (length word) (from Solid line))

-- Returns how many `[[traitor]]` headers there are up to and including this line, if `tables` headers are before it.
abbrev pub table_at : ℕ → List ℕ → ℕ
table_at tables line = if begins_with header line then tables + 1 else tables

-- A line of a TOML text: its number, counted from 1, its bytes, and how many `[[traitor]]` headers the text has up to
-- and including this line.
pub record Found : Type 0 where
  pub number : ℕ
  pub line : List ℕ
  pub tables : ℕ

-- Returns a value of the code as a found line.
abbrev pub found_view : Kept → Found
found_view f = record { number = f.number; line = f.line.now; tables = f.tables }

-- Returns the first of these lines with the first word `word` in table `sought`, the table after that many
-- `[[traitor]]` headers. The first of the lines has the number `number`, and `tables` headers are before it.
abbrev pub found_on : ℕ → List ℕ → ℕ → ℕ → List (List ℕ) → Option Found
found_on sought word tables number [] = None
found_on sought word tables number (line ∷ lines) =
    if table_at tables line == sought && begins_with word line
    then Some (record { number = number; line = line; tables = sought })
    else found_on sought word (table_at tables line) (number + 1) lines

-- Returns the first line of a text with the first word `word` in table `sought`, the table after that many
-- `[[traitor]]` headers. Table 0 is the top of the text.
unfoldable pub found : ℕ → List ℕ → List ℕ → Option Found
found sought word text = found_on sought word 0 1 (lines_of text)

-- The equals sign, as the byte at which a search stops.
abbrev pub equals : Stop
equals = Byte 61

-- The number sign, which begins a comment, as the byte at which a search stops.
abbrev pub hash : Stop
hash = Byte 35

-- Returns a line from its value on. The value begins after the first `=` and the blanks that follow it.
abbrev pub value_end : List ℕ → List ℕ
value_end line = from Solid (drop 1 (from equals line))

-- Returns the value in a line such as `order = 1 # attack`, without the comment and the white space around the value.
abbrev pub value_in : List ℕ → List ℕ
value_in line = trimmed (before hash (value_end line))

-- Returns the text after the first byte, which is a quotation mark, up to the next such byte.
abbrev pub quoted : List ℕ → List ℕ
quoted [] = []
quoted (mark ∷ text) = before (Byte mark) text

-- Returns the text between the quotation marks of the value in a line.
abbrev pub quoted_value : Found → List ℕ
quoted_value f = quoted (value_end f.line)

-- Returns the number of the table that has the first of these lines `general = G`, where `digits` is G. `tables`
-- headers are before the lines.
abbrev pub table_of_on : List ℕ → ℕ → List (List ℕ) → Option ℕ
table_of_on digits tables [] = None
table_of_on digits tables (line ∷ lines) =
    if begins_with (codes "general") line && bytes_eq (value_in line) digits then Some (table_at tables line)
    else table_of_on digits (table_at tables line) lines

-- Returns the number of the table, counted from 1, that has the first line `general = G`, where G is the general. It is
-- 0 for the top of the text.
unfoldable pub table_of : ℕ → List ℕ → Option ℕ
table_of general text = table_of_on (decimal general) 0 (lines_of text)

-- Marks `word`, the first word of a line.
abbrev pub word_marked : List ℕ → Found → Mark
word_marked word f = marked f.number (trimmed f.line) (until Solid f.line) (length word)

-- Marks the value in a line, without the comment after it.
abbrev pub value_marked : Found → Mark
value_marked f = marked f.number (trimmed f.line) (length f.line - length (value_end f.line)) (length (value_in f.line))

-- Marks the value in a line if `by_value` is true, and otherwise its first word, `word`. If its first word is another
-- one, marks all of the line.
abbrev pub shown_at : Bool → List ℕ → Found → Mark
shown_at by_value word f =
    if begins_with word f.line then (if by_value then value_marked f else word_marked word f)
    else all_marked f.number (trimmed f.line)

-- Returns the first line, or the second if there is no first one.
abbrev pub or_else : Option Found → Option Found → Option Found
or_else None other = other
or_else (Some f) other = Some f

-- Returns the line of the key `word` in traitor's table `index`, counted from 0. If the table has no such key, returns
-- its header, and if there is no such header, the line of the key `traitor` at the top of the text.
abbrev pub entry_line : ℕ → List ℕ → List ℕ → Option Found
entry_line index word text =
    or_else (found (index + 1) word text) (or_else (found (index + 1) header text) (found 0 (codes "traitor") text))
