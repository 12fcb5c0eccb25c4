-- Defines the exit status and the reported line if a survey cannot be finished, or if the command line describes no
-- task (docs/FORMATS.md, "Surveys").
use Rattle.std.specs.Prelude.{ℕ, ◌≡◌, ◌≢◌, ◌⊎◌, ◌++◌, List, Option, None, Some, IfSome, codes, decimal, string_bytes}
use Rattle.std.specs.Fmt.{◌++?◌}
use Rattle.std.specs.Io.KnownBytes.{Appends}
use Rattle.clap.specs.Words.{kind_of}
use Rattle.clap.specs.declared.error.Error.{Error}
use Rattle.clap.specs.declared.error.kind.ErrorKind.{ErrorKind}
use Rattle.clap.specs.declared.error.kind.ErrorKind.TheVariants.{DisplayHelp, DisplayVersion}
use Rattle.combine.specs.Names.{rule_names}
use Rattle.scenario.specs.ErrorText.{told}
use Rattle.streams.specs.Names.{shown}
use Rattle.surveyor.specs.Faults.{IsUnprinted}
use Rattle.surveyor.specs.declared.task.AskedError.{AskedError}
use Rattle.surveyor.specs.declared.task.AskedError.TheVariants as asked
use Rattle.surveyor.specs.declared.fault.SurveyFailure.{SurveyFailure}
use Rattle.surveyor.specs.declared.fault.SurveyFailure.TheVariants.{Unread, NotText, Unwritten, Refused, Campaign, Words, Memory}

-- Returns the exit status for a failure: 1 for a file, the output or a campaign, 2 if the command line is not UTF-8,
-- and 3 if memory ran out.
abbrev pub status_of : SurveyFailure → ℕ
status_of (Unread name) = 1
status_of (NotText name) = 1
status_of (Unwritten name) = 1
status_of (Refused line) = 1
status_of (Campaign first last error) = 1
status_of Words = 2
status_of Memory = 3

-- Returns the line that reports a failure. docs/FORMATS.md, "Faults of files", says how the name of a file is
-- displayed. Returns `None` if this is not known.
abbrev pub fault_text : SurveyFailure → Option (List ℕ)
fault_text (Unread name) = Some (codes "fault read ") ++? shown (string_bytes name)
fault_text (NotText name) = Some (codes "fault text ") ++? shown (string_bytes name)
fault_text (Unwritten (Some name)) = Some (codes "fault write ") ++? shown (string_bytes name)
fault_text (Unwritten None) = Some (codes "fault write")
fault_text (Refused line) = Some (string_bytes line)
fault_text (Campaign first last error) = Some (codes "refused " ++ (told error
    ++ (codes " (for seeds " ++ (decimal first ++ (codes ".." ++ (decimal last ++ codes ")"))))))
fault_text Words = Some (codes "error: the words are not UTF-8")
fault_text Memory = Some (codes "out of memory")

-- States that a text is appended to standard error, or that standard error fails. Nothing is stated about the text if
-- it is `None`, which means not known.
abbrev pub IsReported : Type 0 → Option (List ℕ) → Option (List ℕ) → Option (List ℕ) → Type 0
IsReported Fails old new text = Fails ⊎ IfSome text (Appends old new)

-- Returns the line that says why the command line describes no task. Returns `None` for the message of `clap`, which is
-- not known.
abbrev pub complaint : AskedError → Option (List ℕ)
complaint (asked.Words refusal) = None
complaint (asked.Value why) = Some (codes "error: " ++ why.now)
complaint asked.Rule = Some (codes "error: --rule takes " ++ rule_names)
complaint asked.Memory = Some (codes "out of memory")

-- States that `clap` rejects the command line with an error of this kind, which is neither a request for help nor for
-- the version.
abbrev pub IsMistake : ErrorKind → Type 0
IsMistake kind = (kind ≢ DisplayHelp) × (kind ≢ DisplayVersion)

-- States the exit status for a command line that `clap` does not accept: 0 if it asks for help or for the version, and
-- otherwise 2.
abbrev pub IsRefusedByClap : Error → ℕ → Type 0
IsRefusedByClap refusal status =
    (IsMistake (kind_of refusal) × (status ≡ 2)) ⊎ (¬ IsMistake (kind_of refusal) × (status ≡ 0))

-- States the exit status for a command line that describes no task: 0 if it asks for help or for the version, and
-- otherwise 2.
abbrev pub IsUnasked : AskedError → ℕ → Type 0
IsUnasked (asked.Words refusal) status = IsRefusedByClap refusal status
IsUnasked (asked.Value why) status = status ≡ 2
IsUnasked asked.Rule status = status ≡ 2
IsUnasked asked.Memory status = ⊥

-- States that this failure can occur while help or the version is printed: standard output cannot be written, or memory
-- ran out.
abbrev pub IsUnhelpedBy : Error → SurveyFailure → Type 0
IsUnhelpedBy refusal fault = ¬ IsMistake (kind_of refusal) × IsUnprinted fault

-- States that this failure can occur for a command line that describes no task: help or the version cannot be printed,
-- or memory ran out.
abbrev pub IsUnhelped : AskedError → SurveyFailure → Type 0
IsUnhelped (asked.Words refusal) fault = IsUnhelpedBy refusal fault
IsUnhelped asked.Memory fault = fault ≡ Memory
IsUnhelped _ fault = ⊥
