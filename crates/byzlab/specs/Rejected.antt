-- Defines the reports about a file that was not written and about a scenario that is rejected (own).
use Rattle.std.specs.Prelude.{ℕ, ◌≡◌, ◌≢◌, Bool, List, Option, None, Some, IfSome, IsUtf8, String, if◌then◌else◌, string_bytes, ⊤}
use Rattle.std.specs.Global.{Global}
use Rattle.cli_words.specs.declared.tasks.Task.{Task}
use Rattle.cli_tasks.specs.Whys.{is_explained}
use Rattle.cli_tasks.specs.Seen.{Sees}
use Rattle.cli_tasks.specs.declared.named_files.FileProblem.{FileProblem}
use Rattle.cli_tasks.specs.declared.named_files.FileProblem.TheVariants as untaken
use Rattle.cli_report.specs.Refused.{IsTold}
use Rattle.byzlab.specs.Failures.{IsUnreadable}
use Rattle.byzlab.specs.declared.failures.Explained.{Explained}
use Rattle.byzlab.specs.declared.failures.Unwritten.{Unwritten as Line}
use Rattle.byzlab.specs.declared.kept_files.Unkept.{Unkept}
use Rattle.byzlab.specs.declared.kept_files.Unkept.TheVariants as unkept
use Rattle.byzlab.specs.declared.rejection.Rejected.{Rejected}
use Rattle.byzlab.specs.declared.rejection.Rejected.TheVariants as rejected
use Rattle.byzlab.specs.declared.told_line.ReportOutcome.{ReportOutcome}

-- States that this is the report about a file that was not written, with the reason if the task explains what it
-- rejects.
abbrev pub TellsUnkept : Task → Unkept → Explained Line → Type 0
TellsUnkept task (unkept.Unwritten name kind) line =
    (line.lines.name ≡ name) × (line.kind ≡ (if is_explained task then Some kind else None))
TellsUnkept task unkept.Memory line = ⊥

-- States that this is the report about a rejected file that a scenario names. If the task explains what it rejects, it
-- says why the file could not be read.
abbrev pub TellsUntaken : Task → FileProblem → Explained (String Global) → Type 0
TellsUntaken task (untaken.Told lines kind) line =
    (line.lines ≡ lines) × (line.kind ≡ (if is_explained task then kind else None))
TellsUntaken task untaken.Memory line = ⊥

-- Returns how the report about a rejected scenario went: whether memory ran out, and whether the output failed.
abbrev pub said_of : Rejected → ReportOutcome
said_of (rejected.Unread told) = told.said
said_of (rejected.Untaken told) = told.said
said_of (rejected.Refused told) = told.said

-- States that a scenario that names files is rejected, and that the report is at a line of the scenario or of one of
-- these files. `own` is the scenario's own text.
abbrev pub TellsRefused : Bool → (List ℕ → Option (List ℕ)) → Task → List ℕ → String Global → Type 0
TellsRefused no_files beside task own lines = (made : List ℕ) × Sees no_files beside own made × (own ≢ made)
    × (IsUtf8 own → IsUtf8 made → IsTold task own made (Some (string_bytes lines)))

-- States why the scenario with this file name is rejected. It cannot be read, or a file that it names is rejected,
-- about which nothing is said here, or the scenario with the contents of its files is rejected.
abbrev pub IsRejected : Bool → Option (List ℕ) → (List ℕ → Option (List ℕ)) → Task → List ℕ → Rejected → Type 0
IsRejected no_files known beside task name (rejected.Unread told) = IsUnreadable (Some name) told.line.lines
IsRejected no_files known beside task name (rejected.Untaken told) = ⊤
IsRejected no_files known beside task name (rejected.Refused told) =
    (own : List ℕ) × IfSome known (λ all. own ≡ all) × TellsRefused no_files beside task own told.line
