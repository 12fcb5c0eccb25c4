-- Defines the lines of a file, and marks of parts of them (own).
use Rattle.std.specs.Prelude.{ℕ, List, [], ◌∷◌, Bool, ◌-◌, ◌==◌, ◌||◌, min, if◌then◌else◌, Option, length, slice_get}
use Rattle.text.specs.declared.stop.Stop.TheVariants.{Solid}
use Rattle.text.specs.Stop.{is_blank}
use Rattle.text.specs.Parts.{lines_of, until}
use Rattle.cli_report.specs.Report.{Mark}

-- Checks whether a byte is a space, a tab or a carriage return.
abbrev pub is_white : ℕ → Bool
is_white c = is_blank c || c == 13

-- Returns the text with a character put before it. If the text is empty and the character is white space, returns the
-- empty text.
abbrev pub kept : ℕ → List ℕ → List ℕ
kept c [] = if is_white c then [] else c ∷ []
kept c (d ∷ ds) = c ∷ d ∷ ds

-- Returns a text without the spaces, tabs and carriage returns at its end.
abbrev pub trimmed : List ℕ → List ℕ
trimmed [] = []
trimmed (c ∷ cs) = kept c (trimmed cs)

-- Returns line `number` of a text, counted from 1, or `None` if there is no such line.
abbrev pub line_at : List ℕ → ℕ → Option (List ℕ)
line_at text number = slice_get (lines_of text) (number - 1)

-- Marks the `size` bytes after the first `before` bytes of a line, as far as the line has them.
abbrev pub marked : ℕ → List ℕ → ℕ → ℕ → Mark
marked number line before size = record {
  number = number;
  line = line;
  from = min before (length line);
  size = min size (length line - min before (length line));
}

-- Marks a whole line, except the blanks at its beginning.
abbrev pub all_marked : ℕ → List ℕ → Mark
all_marked number line = marked number line (until Solid line) (length line)
