-- Defines the lines and exit statuses for words that ask for no task, for files that cannot be read or written, and for
-- outputs that fail.
use Rattle.std.specs.Prelude.{ℕ, ◌≡◌, ◌≢◌, ◌⊎◌, ◌++◌, List, Option, None, Some, Bool, false, true, codes}
use Rattle.clap.specs.Words.{kind_of}
use Rattle.clap.specs.declared.error.Error.{Error as Refusal}
use Rattle.clap.specs.declared.error.kind.ErrorKind.{ErrorKind}
use Rattle.clap.specs.declared.error.kind.ErrorKind.TheVariants.{DisplayHelp, DisplayVersion}
use Rattle.std.specs.Borrow.{Bor}
use Rattle.std.specs.Fmt.{◌++?◌}
use Rattle.cli_tasks.specs.Reasons.{reason_text}
use Rattle.cli_tasks.specs.declared.failure.TaskFailure.{TaskFailure}
use Rattle.cli_tasks.specs.declared.failure.TaskFailure.TheVariants.{Read}
use Rattle.cli_words.specs.Asked.{asked, words_of}
use Rattle.cli_words.specs.declared.errors.TaskError.{TaskError}
use Rattle.cli_words.specs.declared.errors.TaskError.TheVariants as task
use Rattle.cli_words.specs.declared.tasks.TaskRequest.{TaskRequest}
use Rattle.cli_answers.specs.Printing.{is_shaped}
use Rattle.byzlab.specs.declared.ending.Ending.{Ending}
use Rattle.byzlab.specs.declared.no_request.Why.{Why}
use Rattle.byzlab.specs.declared.no_request.Why.TheVariants as why
use Rattle.byzlab.specs.declared.told_line.ReportOutcome.{ReportOutcome}
use Rattle.std.specs.declared.io.ErrorKind.{ErrorKind as IoKind}
use Rattle.std.specs.declared.io.ErrorKind.TheVariants.{OutOfMemory, InvalidData, PermissionDenied}

-- Returns the line and the exit status for an error outside of a task: the command line is not UTF-8 (status 2), help
-- cannot be printed (1), or memory ran out (3).
abbrev pub failure_of : IoKind → List ℕ × ℕ
failure_of OutOfMemory = (codes "out of memory", 3)
failure_of InvalidData = (codes "error: the words are not UTF-8", 2)
failure_of _ = (codes "fault write", 1)

-- States that an error of `clap`, the parser of the command line, is a mistake in the words. It is not one if the words
-- ask for help or for the version.
abbrev pub IsMistake : ErrorKind → Type 0
IsMistake kind = (kind ≢ DisplayHelp) × (kind ≢ DisplayVersion)

-- States that the exit status of words that `clap`, the parser of the command line, rejects is 0 if they ask for help
-- or for the version, and otherwise 2.
abbrev pub IsUnaskedBy : Refusal → ℕ → Type 0
IsUnaskedBy refusal status =
    (IsMistake (kind_of refusal) × (status ≡ 2)) ⊎ (¬ IsMistake (kind_of refusal) × (status ≡ 0))

-- States that this is the exit status of words that ask for no task.
abbrev pub IsUnasked : TaskError → ℕ → Type 0
IsUnasked (task.Words refusal) status = IsUnaskedBy refusal status
IsUnasked (task.Misuse misuse) status = status ≡ 2
IsUnasked task.Memory status = ⊥

-- Returns the error that was reported for words that ask for no task.
abbrev pub error_of : Why → TaskError
error_of (why.Printed refusal) = task.Words refusal
error_of (why.Noted told) = told.line

-- States that these words of one request ask for no task.
abbrev pub AsksNothing : List (Bor (List ℕ)) → Type 0
AsksNothing words = asked (words_of words) ≡ None

-- States that this is the exit status of a request: 0 if it is done, 1 for a rejection or a fault of a file, or 3 if
-- memory ran out.
abbrev pub IsStatus : ℕ → Type 0
IsStatus status = (status ≡ 0) ⊎ ((status ≡ 1) ⊎ (status ≡ 3))

-- Returns the exit status after it was reported why a task is not done: 1, or 3 if memory ran out for the report.
abbrev pub status_said : Bool → ℕ
status_said false = 1
status_said true = 3

-- States how the report of a line can go. If the request asks for neither JSON nor one line, no memory is needed, and
-- the output does not fail. If memory runs out, the output does not fail either.
abbrev pub IsSaidOf : TaskRequest → ReportOutcome → Type 0
IsSaidOf request said = (is_shaped request ≡ false → (said.is_lacking ≡ false) × (said.is_unwritten ≡ false))
    × (said.is_lacking ≡ true → said.is_unwritten ≡ false)

-- States how a request can end after it was reported why it is not done: with the exit status 1 or 3. If it asks for
-- neither JSON nor one line, the status is 1, and the output did not fail.
abbrev pub IsTurnedDown : TaskRequest → Ending → Type 0
IsTurnedDown request ending = ((ending.status ≡ 1) ⊎ (ending.status ≡ 3))
    × (is_shaped request ≡ false → (ending.status ≡ 1) × (ending.is_unwritten ≡ false))

-- Returns the lines and, if there is a kind of error, the sentence for errors of this kind.
abbrev pub explained_text : Option (List ℕ) → Option IoKind → Option (List ℕ)
explained_text lines None = lines
explained_text lines (Some kind) = lines ++? Some (codes "\nerror: " ++ reason_text kind)

-- Returns the sentence for an output that failed with an error of this kind. If the command line names the file of the
-- output, `named` is true, and the output needs a new file in the folder of that file.
abbrev pub why_text : Bool → IoKind → List ℕ
why_text true PermissionDenied = codes "the system does not permit it, or permits no new file in its folder"
why_text named kind = reason_text kind

-- States which sentence is reported for an output that failed. The first flag says whether the task names its output or
-- explains what it rejects, and `named` says whether it names it. There is a sentence only if the exit status is 1.
abbrev pub IsWhy : ℕ → Bool → Bool → Option IoKind → Option (List ℕ) → Type 0
IsWhy status true named (Some kind) why =
    ((status ≡ 1) × (why ≡ Some (why_text named kind))) ⊎ ((status ≢ 1) × (why ≡ None))
IsWhy status _ named _ why = why ≡ None

-- States that the report says that the file with this name cannot be read.
abbrev pub IsUnreadable : Option (List ℕ) → TaskFailure → Type 0
IsUnreadable (Some name) (Read own) = own.now ≡ name
IsUnreadable _ _ = ⊥
