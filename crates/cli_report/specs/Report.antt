-- Defines the report that follows a refusal line, in the form of rustc's messages: a sentence, an excerpt of the file
-- with a part marked, and a help message (own).
use Rattle.std.specs.Prelude.{ℕ, List, [], ◌++◌, ◌==◌, if◌then◌else◌, Option, None, Some, codes, decimal, length, take, drop}
use Rattle.std.specs.Fmt.{is_char_start}
use Rattle.std.specs.List.{flat_map, repeat}
use Rattle.std.specs.Str.Lossy.{utf8_lossy}
use Rattle.streams.specs.Escapes.{escaped}
use Rattle.streams.specs.declared.escaped.Kept.TheVariants.{Tab}
use Rattle.cli_report.specs.declared.report.Mark.{Mark as Held}
use Rattle.cli_report.specs.declared.report.Help.{Help}
use Rattle.cli_report.specs.declared.report.Help.TheVariants.{Said, Near, Has}

-- A part of a line, which is marked with carets in an excerpt: `size` bytes of the line, after its first `from` bytes.
pub record Mark : Type 0 where
  pub number : ℕ
  pub line : List ℕ
  pub from : ℕ
  pub size : ℕ

-- Returns a value of the code as a mark.
abbrev pub mark_view : Held → Mark
mark_view m = record { number = m.number; line = m.line.now; from = m.from; size = m.size }

-- Returns a line as reports show it: with control characters other than the tab escaped, and with replacement
-- characters for bytes that are not UTF-8.
abbrev pub shown_line : List ℕ → List ℕ
shown_line line = escaped Tab (utf8_lossy line)

-- Returns what is printed below a byte before the marked part: a tab below a tab, a space below the first byte of
-- another character, and nothing below its further bytes.
abbrev pub blank_below : ℕ → List ℕ
blank_below b = if b == 9 then codes "\t" else if is_char_start b then codes " " else []

-- Returns what is printed below a byte of the marked part: a caret below the first byte of a character, and nothing
-- below its further bytes.
abbrev pub caret_below : ℕ → List ℕ
caret_below b = if is_char_start b then codes "^" else []

-- Returns what is printed below a line: white space up to the marked part, and then a caret for each character of this
-- part, at least one.
unfoldable pub carets_below : Mark → List ℕ
carets_below m = flat_map blank_below (shown_line (take m.from m.line))
    ++ (codes "^" ++ flat_map caret_below (drop 1 (shown_line (take m.size (drop m.from m.line)))))

-- Returns the margin of a report: as many spaces as the number has decimal digits.
abbrev pub margin_of : ℕ → List ℕ
margin_of number = repeat (length (decimal number)) (codes " ")

-- Returns the margin of a report by its marked part, or one space if there is none.
abbrev pub margin_by : Option Mark → List ℕ
margin_by None = codes " "
margin_by (Some m) = margin_of m.number

-- Writes the line `--> NAME:NUMBER` of a report, with the file's name and the number of the line.
unfoldable pub where_text : List ℕ → List ℕ → ℕ → List ℕ
where_text margin name number =
    codes "\n" ++ margin ++ codes "--> " ++ name ++ codes ":" ++ decimal number ++ codes "\n"

-- Writes the marked line of a file after its number, as in `7 | order = x`, and an empty line of the margin before it.
unfoldable pub shown_text : List ℕ → Mark → List ℕ
shown_text margin m = margin ++ codes " |\n" ++ decimal m.number ++ codes " | " ++ shown_line m.line ++ codes "\n"

-- Writes the line of a report that has carets below the marked part.
unfoldable pub marked_text : List ℕ → Mark → List ℕ
marked_text margin m = margin ++ codes " | " ++ carets_below m

-- Writes an excerpt of a file: the file's name, the line with its number, and carets below the marked part.
abbrev pub excerpt_text : List ℕ → List ℕ → Mark → List ℕ
excerpt_text margin name m = where_text margin name m.number ++ (shown_text margin m ++ marked_text margin m)

-- Writes an excerpt of a file, or only the file's name if no part is marked.
abbrev pub place_text : List ℕ → Option Mark → List ℕ
place_text name None = codes "\n --> " ++ name
place_text name (Some m) = excerpt_text (margin_of m.number) name m

-- Returns the help message that a name of this kind, such as a mnemonic, is similar.
abbrev pub near_words : List ℕ → List ℕ → List ℕ
near_words kind name = codes "a " ++ (kind ++ (codes " with a similar name is `" ++ (name ++ codes "`")))

-- Returns the help message with the line that the campaign's own chronicle has.
abbrev pub has_words : List ℕ → List ℕ
has_words line = codes "the campaign's line is `" ++ line ++ codes "`"

-- Returns the text of a help message.
abbrev pub help_words : Help → List ℕ
help_words (Said sentence) = sentence.now
help_words (Near kind name) = near_words kind.now name.now
help_words (Has line) = has_words line.now

-- Writes the line of a report with the help message, if there is one.
abbrev pub help_text : List ℕ → Option (List ℕ) → List ℕ
help_text margin None = []
help_text margin (Some help) = codes "\n" ++ margin ++ codes " = help: " ++ help

-- Writes the report that follows a refusal line: the sentence, an excerpt of the file `name`, and the help message.
unfoldable pub report_text : List ℕ → List ℕ → Option Mark → Option (List ℕ) → List ℕ
report_text name sentence place help =
    (codes "\nerror: " ++ sentence) ++ place_text name place ++ help_text (margin_by place) help
