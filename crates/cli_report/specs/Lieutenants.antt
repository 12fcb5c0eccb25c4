-- Defines the report that a general who is named on the command line does not exist, or is not a lieutenant (own).
use Rattle.std.specs.Prelude.{ℕ, true, List, ◌++◌, ◌-◌, nat_lt, if◌then◌else◌, Option, None, Some, codes, decimal, option_map}
use Rattle.cli_report.specs.Keys.{Found, found, shown_at}
use Rattle.cli_report.specs.Lines.{line_at}
use Rattle.cli_report.specs.Messages.{stranger_line_told}
use Rattle.cli_report.specs.Report.{report_text}

-- Returns the error sentence for a general who makes no decision: in a campaign of `generals` generals he is the
-- commander, or does not exist.
abbrev pub lieutenant_sentence : ℕ → ℕ → List ℕ
lieutenant_sentence general generals =
    if nat_lt general generals
    then codes "general " ++ decimal general ++ codes " is the commander, and only lieutenants decide"
    else codes "the campaign has the generals 0 to " ++ decimal (generals - 1)

-- Returns the key of the scenario that shows why this general is no lieutenant: `commander` if he exists, and otherwise
-- `generals`.
abbrev pub lieutenant_word : ℕ → ℕ → List ℕ
lieutenant_word general generals = if nat_lt general generals then codes "commander" else codes "generals"

-- Returns the report that a general is not a lieutenant of a campaign of `generals` generals, whose scenario is in the
-- file `name`.
unfoldable pub lieutenant_told : List ℕ → List ℕ → ℕ → ℕ → List ℕ
lieutenant_told name text general generals =
    report_text name (lieutenant_sentence general generals)
    (option_map (shown_at true (lieutenant_word general generals)) (found 0 (lieutenant_word general generals) text))
    None

-- Returns the report for a scenario, if a line with the key `commander` was found, and otherwise the report for a
-- message table.
abbrev pub stranger_by : List ℕ → List ℕ → ℕ → ℕ → Option Found → List ℕ
stranger_by name text general generals None = stranger_line_told name generals (line_at text 1)
stranger_by name text general generals (Some line) = lieutenant_told name text general generals

-- Returns the report that a general does not belong to the message table or the scenario in the file `name`, which has
-- `generals` generals.
unfoldable pub stranger_told : List ℕ → List ℕ → ℕ → ℕ → List ℕ
stranger_told name text general generals =
    stranger_by name text general generals (found 0 (codes "commander") text)
