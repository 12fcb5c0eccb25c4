-- On which lines and with which words the units of a program are written (own).
use Rattle.std.specs.Prelude.{ℕ, ◌≡◌, ◌≤◌, ◌==◌, ◌&&◌, nat_le, nat_lt, Bool, if◌then◌else◌, List, [], ◌∷◌, ◌++◌, Option, Some, None, Result, Ok, Err, codes, decimal, map}
use Rattle.std.specs.List.{flat_map, list_all}
use Rattle.insn.specs.Program.{most_units}
use Rattle.asm.specs.declared.draft.Kept.{Kept}
use Rattle.asm.specs.declared.fault.AsmError.{AsmError}
use Rattle.asm.specs.declared.fault.AsmFault.{AsmFault}
use Rattle.asm.specs.Line.{Outline, outline_of}
use Rattle.asm.specs.Printing.{operands_text}
use Rattle.asm.specs.Program.{Placed, Read, lines_of, placed_units, source_units, units_in}
use Rattle.asm.specs.Statement.{Source, statement_of}
use Rattle.asm.specs.Views.{kept_view}

-- Returns a line's number as text, such as `line 7`.
abbrev pub line_text : ℕ → List ℕ
line_text line = codes "line " ++ decimal line

-- Returns the line of each of an instruction's 1 or 2 units, as text.
abbrev pub own_places : Placed → List (List ℕ)
own_places p = if placed_units p == 2 then line_text p.line ∷ line_text p.line ∷ [] else line_text p.line ∷ []

-- Returns the line of each unit of a stored instruction, as text.
abbrev pub kept_places : Kept → List (List ℕ)
kept_places kept = own_places (kept_view kept)

-- States that `places` has the line of each unit of a text, as text. It is empty if a line has a fault. Nothing is
-- stated for more than 4,096 units.
abbrev pub AreWritten : Result Read AsmError → List (List ℕ) → Type 0
AreWritten (Ok r) places = units_in r ≤ most_units → places ≡ flat_map own_places r.sources
AreWritten (Err fault) places = places ≡ []

-- ---- the words of the units

-- Returns whether the byte is a visible ASCII character or a space.
abbrev pub is_visible : ℕ → Bool
is_visible c = nat_le 32 c && nat_lt c 127

-- Returns a word as it is written, or an empty text if it has a character that is not visible, which no instruction
-- has.
abbrev pub word_text : List ℕ → List ℕ
word_text word = if list_all is_visible word then word else []

-- Returns an instruction in the words of its line, such as `add r1, 8`.
abbrev pub statement_text : List (List ℕ) → List ℕ
statement_text [] = []
statement_text (word ∷ operands) = word_text word ++ operands_text (map word_text operands)

-- Returns the text of an instruction, once for each of its units.
abbrev pub for_units : Result (Option Source) AsmFault → List ℕ → List (List ℕ)
for_units (Ok (Some source)) text = if source_units source == 2 then text ∷ text ∷ [] else text ∷ []
for_units _ text = []

-- Returns the text of a line's instruction, from the words of the line, once for each of its units.
abbrev pub outline_statements : Option Outline → List (List ℕ)
outline_statements None = []
outline_statements (Some o) = for_units (statement_of o.words) (statement_text o.words)

-- Returns the text of a line's instruction, once for each of its units.
abbrev pub line_statements : List ℕ → List (List ℕ)
line_statements line = outline_statements (outline_of line)

-- Returns for each unit of the program in a text the text of its instruction.
abbrev pub statements_of : List ℕ → List (List ℕ)
statements_of text = flat_map line_statements (lines_of text)
