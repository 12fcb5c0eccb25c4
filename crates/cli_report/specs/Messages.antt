-- Defines the report of a fault of a message table (own).
use Rattle.std.specs.Prelude.{ℕ, List, ◌++◌, ◌-◌, ◌==◌, ◌||◌, if◌then◌else◌, Option, None, Some, codes, decimal, length}
use Rattle.combine.specs.Names.{rule_names}
use Rattle.book.specs.declared.fault.TableFault.{TableFault}
use Rattle.book.specs.declared.fault.TableFault.TheVariants as fault
use Rattle.cli_report.specs.Assembly.{begins_marked, has}
use Rattle.cli_report.specs.Lines.{all_marked, line_at, trimmed}
use Rattle.cli_report.specs.Report.{report_text}

-- The error sentence for a message table with a first line that does not have the required form.
abbrev pub first_sentence : List ℕ
first_sentence = codes
    "the first line must be `generals N bound M commander C`, perhaps with ` rule R` after it, where R is " ++ rule_names

-- Returns the error sentence for a fault in line `number` of a message table, counted from 1.
abbrev pub table_sentence : TableFault → ℕ → List ℕ
table_sentence fault.Line number =
    if number == 1
    then first_sentence
    else codes "a line must be `tell LABEL RECEIVER ORDER`, with the label's generals joined by dots, "
    ++ codes "numbers without leading zeros, and an order of at most 4294967295"
table_sentence fault.Range number =
    codes "there must be 2 to 13 generals, a bound of 0 to 4 and at most generals - 2, and a commander below generals"
table_sentence fault.Place number =
    codes "there is no such label, or no such receiver for it: a label begins with the commander, "
    ++ codes "has at most bound + 1 generals, none twice, and the receiver is not on it"
table_sentence fault.Twice number = codes "an earlier line has an order for this label and receiver"

-- Returns the help message for a line that does not have the form of a message table's lines: the likely cause, by the
-- first of these characters that the line contains, or `None`.
abbrev pub shape_advice : ℕ → List ℕ → Option (List ℕ)
shape_advice number line =
    if begins_marked number line then Some (codes "the file begins with a byte order mark: save it without one")
    else if has 13 line then Some (codes "the file has Windows line ends: each line must end with only a line feed")
    else if length line == 0 then Some (codes "a table has no empty line")
    else if has 63 line then Some (codes "put an order, which is a number, in place of `?`")
    else if has 35 line || has 59 line then Some (codes "a table has no comments")
    else if has 9 line then Some (codes "the parts of a line are separated by one space, not by a tab")
    else None

-- Returns the help message for a faulty line of a message table, or `None` if no cause is likely.
abbrev pub table_advice : TableFault → ℕ → List ℕ → Option (List ℕ)
table_advice fault.Line number line = shape_advice number line
table_advice _ number line = None

-- Returns the report of a fault in line `number` of a message table. Without the line, the report has no excerpt.
abbrev pub table_line_told : List ℕ → TableFault → ℕ → Option (List ℕ) → List ℕ
table_line_told name f number None = report_text name (table_sentence f number) None None
table_line_told name f number (Some line) =
    report_text name (table_sentence f number) (Some (all_marked number (trimmed line))) (table_advice f number line)

-- Returns the report of a fault at line `number` of a message table, which is in the file `name`.
unfoldable pub table_told : List ℕ → List ℕ → TableFault → ℕ → List ℕ
table_told name text f number = table_line_told name f number (line_at text number)

-- ---- a named general who is not one of the table's

-- Returns the error sentence for a general who is not in a message table. It says which generals the table has.
abbrev pub stranger_sentence : ℕ → List ℕ
stranger_sentence generals = codes "the table has the generals 0 to " ++ decimal (generals - 1)

-- Returns the report that a general named on the command line is not in a message table. `line` is the table's first
-- line. Without it, the report has no excerpt.
abbrev pub stranger_line_told : List ℕ → ℕ → Option (List ℕ) → List ℕ
stranger_line_told name generals None = report_text name (stranger_sentence generals) None None
stranger_line_told name generals (Some line) =
    report_text name (stranger_sentence generals) (Some (all_marked 1 (trimmed line))) None
