-- Defines what the program does for a command line, and why it cannot finish.
use Rattle.std.specs.Prelude.{ℕ, ◌≡◌, List, [], Option, Result, Ok, Err, IfErr, IfOk}
use Rattle.std.specs.Fmt.{with_newline}
use Rattle.clap.specs.Words.{Text, fault_of, matches_of}
use Rattle.surveyor.specs.Broken.{IsBreakAnswered}
use Rattle.surveyor.specs.Ends.{IsSearchRefused, IsUnended, IsUnsurveyed, NoneIsRefused}
use Rattle.surveyor.specs.Faults.{IsUnsummed}
use Rattle.surveyor.specs.Flags.{survey_app}
use Rattle.surveyor.specs.Kept.{File}
use Rattle.surveyor.specs.Meant.{Asks}
use Rattle.surveyor.specs.Printed.{IsCampaignPrinted, IsSurveyed}
use Rattle.surveyor.specs.Statuses.{IsUnasked, IsUnhelped, complaint}
use Rattle.surveyor.specs.Summed.{IsSummed}
use Rattle.surveyor.specs.Wrong.{IsUnmet}
use Rattle.surveyor.specs.declared.task.Asked.{Asked}
use Rattle.surveyor.specs.declared.task.Asked.TheVariants.{Survey, Campaign, Break, Merge}
use Rattle.surveyor.specs.declared.task.AskedError.{AskedError}
use Rattle.surveyor.specs.declared.fault.SurveyFailure.{SurveyFailure}

-- States that the words describe the task in `asked`, or that they describe no task for the reason in `asked`.
pub record IsAskedBy (words : List Text) (asked : Result Asked AskedError) : Type 0 where
  pub found : IfOk asked (Asks (matches_of survey_app words))
  pub taken : IfOk asked (λ _. fault_of survey_app words ≡ [])
  pub refused : IfErr asked (IsUnmet words)

-- States what is done for a task: how the output and the files with campaigns change, what is reported on standard
-- error, and the exit status. If there is no task, the reason is reported, and neither the output nor the files change.
abbrev pub IsDone : Result Asked AskedError → Option (List ℕ) → Option (List ℕ) → Option (List File)
    → Option (List File) → (Option (List ℕ) → Type 0) → ℕ → Type 0
IsDone (Ok (Survey s)) old new before after Reports status = IsSurveyed s old new before after × (status ≡ 0)
IsDone (Ok (Campaign c)) old new before after Reports status =
    IsCampaignPrinted c old new × (after ≡ before) × (status ≡ 0)
IsDone (Ok (Break s is_table)) old new before after Reports status =
    IsBreakAnswered s is_table old new × (after ≡ before) × (status ≡ 0)
IsDone (Ok (Merge m)) old new before after Reports status = IsSummed m old new Reports status × (after ≡ before)
IsDone (Err error) old new before after Reports status =
    IsUnasked error status × Reports (with_newline (complaint error)) × (new ≡ old) × (after ≡ before)

-- States that this failure can keep the task from being finished.
abbrev pub IsUndone : Result Asked AskedError → SurveyFailure → Type 0
IsUndone (Ok (Survey s)) fault = IsUnsurveyed s fault
IsUndone (Ok (Campaign c)) fault = IsUnended c.survey NoneIsRefused fault
IsUndone (Ok (Break s is_table)) fault = IsUnended s (IsSearchRefused s) fault
IsUndone (Ok (Merge m)) fault = IsUnsummed m fault
IsUndone (Err error) fault = IsUnhelped error fault
