-- Defines the report of a fault of a schedule or a chronicle (own).
use Rattle.std.specs.Prelude.{ℕ, List, ◌++◌, Bool, true, false, ◌==◌, if◌then◌else◌, Option, None, Some, codes, length, option_map, take}
use Rattle.text.specs.Stop.{feed}
use Rattle.text.specs.Parts.{pieces}
use Rattle.trace.specs.declared.fault.TraceFault.{TraceFault}
use Rattle.trace.specs.declared.fault.TraceFault.TheVariants as fault
use Rattle.cli_report.specs.Assembly.{begins_marked, has}
use Rattle.cli_report.specs.Lines.{all_marked, line_at, trimmed}
use Rattle.cli_report.specs.Report.{has_words, report_text, shown_line}

-- ---- schedules

-- The error sentence for a faulty line of a schedule.
abbrev pub schedule_sentence : List ℕ
schedule_sentence =
    codes "a line has entries separated by one space: `G`, or `G*K` for K times `G`, with G 0 to 12 and K 1 to 4096; "
    ++ codes "a schedule has at most 5 lines and 1048576 bytes"

-- Returns the help message for a faulty line of a schedule: the likely cause, by what the line contains, or `None`.
abbrev pub schedule_advice : ℕ → List ℕ → Option (List ℕ)
schedule_advice number line =
    if begins_marked number line then Some (codes "the file begins with a byte order mark: save it without one")
    else if has 13 line then Some (codes "the file has Windows line ends: each line must end with only a line feed")
    else if has 35 line then Some (codes "a schedule has no comments")
    else None

-- Returns the report of a fault in line `number` of a schedule. Without the line, the report has no excerpt.
abbrev pub schedule_line_told : List ℕ → ℕ → Option (List ℕ) → List ℕ
schedule_line_told name number None = report_text name schedule_sentence None None
schedule_line_told name number (Some line) =
    report_text name schedule_sentence (Some (all_marked number (trimmed line))) (schedule_advice number line)

-- Returns the report of a fault at line `number` of the schedule in the file `name`. Only the first 1,048,576 bytes,
-- the most that a schedule may have, can be in the excerpt.
unfoldable pub schedule_told : List ℕ → List ℕ → ℕ → List ℕ
schedule_told name text number = schedule_line_told name number (line_at (take 1048576 text) number)

-- ---- chronicles

-- Checks whether line `number` of a text, counted from 1, is the one after the last line feed.
abbrev pub is_last : List ℕ → ℕ → Bool
is_last text number = number == length (pieces feed text)

-- Returns the error sentence for a fault in a line of a chronicle. The flag is true for the line after the last line
-- feed of the file, which is cut off or empty. If it is empty, the campaign's chronicle has more lines than the file.
abbrev pub chronicle_sentence : Bool → TraceFault → List ℕ
chronicle_sentence true fault.Line = codes "the file is cut off: this line has no line feed at its end"
chronicle_sentence true f = codes "the file ends here, but the campaign's chronicle has more lines"
chronicle_sentence false fault.Line = codes "no line of a chronicle has this shape"
chronicle_sentence false fault.Scenario = codes "the first two lines are not those of this scenario's campaign"
chronicle_sentence false fault.Differs = codes "this line differs from the campaign's"

-- Returns the help message for a faulty line of a chronicle: the line that the campaign's own chronicle has there or,
-- if this is not known, a likely cause, by what the line contains.
abbrev pub chronicle_advice : ℕ → Option (List ℕ) → List ℕ → Option (List ℕ)
chronicle_advice number (Some wanted) line = Some (has_words wanted)
chronicle_advice number None line =
    if begins_marked number line then Some (codes "the file begins with a byte order mark: save it without one")
    else if has 13 line then Some (codes "the file has Windows line ends: each line must end with only a line feed")
    else None

-- Returns the report of a fault in line `number` of a chronicle. Without the line, the report has no excerpt.
abbrev pub chronicle_line_told : List ℕ → Bool → TraceFault → ℕ → Option (List ℕ) → Option (List ℕ) → List ℕ
chronicle_line_told name last f number wanted None =
    report_text name (chronicle_sentence last f) None (option_map has_words wanted)
chronicle_line_told name last f number wanted (Some line) =
    report_text name (chronicle_sentence last f) (Some (all_marked number (trimmed line)))
    (chronicle_advice number wanted line)

-- Returns the report of a fault at line `number` of the chronicle in the file `name`. `wanted` is the line that the
-- campaign's own chronicle has there, if it is known.
unfoldable pub chronicle_told : List ℕ → List ℕ → TraceFault → ℕ → Option (List ℕ) → List ℕ
chronicle_told name text f number wanted =
    chronicle_line_told name (is_last text number) f number wanted (line_at text number)

-- Returns line `number` of `again`, the campaign's own chronicle, with control characters escaped. Returns `None` if
-- the line in the file does not have the form of a chronicle's line.
abbrev pub wanted_in : TraceFault → List ℕ → ℕ → Option (List ℕ)
wanted_in fault.Line again number = None
wanted_in f again number = option_map shown_line (line_at again number)

-- Returns the report of a fault at line `number` of the chronicle in the file `name`. `again` is the correct chronicle
-- of the campaign.
abbrev pub replayed_told : List ℕ → List ℕ → TraceFault → ℕ → List ℕ → List ℕ
replayed_told name text f number again = chronicle_told name text f number (wanted_in f again number)
