-- Defines why a scenario that names files is rejected, as a report at a line of the scenario or of one of these files
-- (own). `own` is the scenario's own text, and `made` is the text with the contents of the files in place of their
-- names.
use Rattle.std.specs.Prelude.{ℕ, ◌≡◌, ◌≢◌, List, [], ◌++◌, Option, None, Some, Result, Ok, Err, IsErr, IfSome, codes, unwrap_or}
use Rattle.std.specs.declared.alloc.AllocError.{AllocError}
use Rattle.toml.specs.Parse.{parse_document}
use Rattle.cli_words.specs.declared.tasks.Account.TheVariants.{Chronicle, Table}
use Rattle.cli_words.specs.declared.tasks.Task.{Task}
use Rattle.cli_words.specs.declared.tasks.Task.TheVariants.{Audit, Muster, Play}
use Rattle.cli_words.specs.Tasks.{file_of}
use Rattle.round.specs.Scenario.{Scenario}
use Rattle.scenario.specs.Reading.{Reads, ReadsAny}
use Rattle.scenario.specs.declared.fault.ScenarioError.{ScenarioError}
use Rattle.scenario.specs.declared.fault.ScenarioError.TheVariants.{Memory}
use Rattle.scenario.specs.declared.messages.Campaign.{Campaign}
use Rattle.streams.specs.Names.{shown}
use Rattle.cli_report.specs.Made.{TellsMade}
use Rattle.cli_report.specs.ShownErrors.{scenario_text}
use Rattle.cli_report.specs.declared.refusal.Taken.{Taken}
use Rattle.cli_report.specs.declared.refusal.Taken.TheVariants as taken

-- Returns which campaigns a task accepts, or `None` if it does not explain why it rejects a scenario. A message table
-- needs an oral campaign.
abbrev pub taken_by : Task → Option Taken
taken_by (Play scenario schedule Chronicle (Some of)) = Some taken.Any
taken_by (Play scenario schedule Table (Some of)) = Some taken.Oral
taken_by (Muster scenario (Some of)) = Some taken.Any
taken_by (Audit scenario chronicle (Some of)) = Some taken.Any
taken_by task = None

-- States that the text is not a campaign of this kind, and that `error` is its first error.
abbrev pub Refuses : Taken → List ℕ → ScenarioError → Type 0
Refuses taken.Oral text error = (error ≢ Memory) × Reads (parse_document text) (Err error)
Refuses taken.Any text error = (error ≢ Memory) × ReadsAny (parse_document text) (Err error)

-- States that the text is a campaign of this kind.
abbrev pub Takes : Taken → List ℕ → Type 0
Takes taken.Oral text = (s : Scenario) × Reads (parse_document text) (Ok s)
Takes taken.Any text = (c : Campaign) × ReadsAny (parse_document text) (Ok c)

-- States that the text is a campaign of this kind if there is no error, and that otherwise this is its first error.
abbrev pub IsErrorOf : Taken → List ℕ → Option ScenarioError → Type 0
IsErrorOf kind text None = Takes kind text
IsErrorOf kind text (Some error) = Refuses kind text error

-- States that the second result has the error of the first one, or `None` if that has none. The second result fails if
-- the first one ran out of memory.
abbrev pub IsErrorIn : {T : Type 0} → Result T ScenarioError → Result (Option ScenarioError) AllocError → Type 0
IsErrorIn (Ok read) answer = answer ≡ Ok None
IsErrorIn (Err Memory) answer = IsErr answer
IsErrorIn (Err error) answer = answer ≡ Ok (Some error)

-- States that `report` is the report of the error, and shows the file's name. It is not specified how reports show a
-- name that has both non-ASCII characters and a control character.
abbrev pub IsReportShown : List ℕ → List ℕ → List ℕ → ScenarioError → List ℕ → Type 0
IsReportShown file own made error report = IfSome (shown file) (λ name. TellsMade name own made error report)

-- States that `lines` is the line `refused ...` for the error and the report after it.
abbrev pub IsRefusalShown : List ℕ → List ℕ → List ℕ → ScenarioError → List ℕ → Type 0
IsRefusalShown file own made error lines =
    (report : List ℕ) × IsReportShown file own made error report × (lines ≡ codes "refused " ++ scenario_text error ++ report)

-- States that the resolved text `made` is a campaign of this kind if there are no lines, and that otherwise the lines
-- report why it is not.
abbrev pub IsToldOf : Taken → List ℕ → List ℕ → List ℕ → Option (List ℕ) → Type 0
IsToldOf kind file own made None = Takes kind made
IsToldOf kind file own made (Some lines) =
    (error : ScenarioError) × Refuses kind made error × IsRefusalShown file own made error lines

-- States that the lines report why the resolved text `made` is not a campaign of this kind. There are no lines if it is
-- one, or if the task does not explain why it rejects a scenario.
abbrev pub IsToldBy : Option Taken → List ℕ → List ℕ → List ℕ → Option (List ℕ) → Type 0
IsToldBy None file own made lines = lines ≡ None
IsToldBy (Some kind) file own made lines = IsToldOf kind file own made lines

-- States that the lines report why the scenario of a task is rejected. There are no lines if it is accepted, or if the
-- task does not explain why it rejects a scenario.
abbrev pub IsTold : Task → List ℕ → List ℕ → Option (List ℕ) → Type 0
IsTold task own made lines = IsToldBy (taken_by task) (unwrap_or (file_of task) []) own made lines
