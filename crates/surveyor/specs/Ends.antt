-- Defines why a survey cannot be finished (docs/FORMATS.md, "Surveys").
use Rattle.std.specs.Prelude.{⊤, ℕ, ◌≡◌, ◌+◌, ◌≤◌, List, is_some, true, None, Some, string_bytes}
use Rattle.scenario.specs.declared.fault.ScenarioError.{ScenarioError}
use Rattle.surveys.specs.Family.{Family}
use Rattle.surveys.specs.Judging.{IsRefusedIn}
use Rattle.surveys.specs.Plotting.{plot_of}
use Rattle.surveys.specs.Breaches as Lessened
use Rattle.surveys.specs.Breaches.{IsRefusedWith}
use Rattle.surveyor.specs.Broken.{cut_to}
use Rattle.surveyor.specs.Faults.{IsFile, IsRefusedBy}
use Rattle.surveyor.specs.Words.{IsFamilyOf}
use Rattle.surveyor.specs.declared.task.ReportKind.{ReportKind}
use Rattle.surveyor.specs.declared.task.ReportKind.TheVariants.{Least}
use Rattle.surveyor.specs.declared.task.Survey.{Survey}
use Rattle.surveyor.specs.declared.fault.SurveyFailure.{SurveyFailure}
use Rattle.surveyor.specs.declared.fault.SurveyFailure.TheVariants.{Unread, NotText, Unwritten, Refused, Campaign, Words, Memory}

-- States that a campaign whose seed is one of `first` to `last` is rejected with this error, and that these are seeds
-- of the survey.
pub record IsCampaign (s : Survey) (Refuses : ℕ → ℕ → ScenarioError → Type 0) (first last : ℕ) (e : ScenarioError)
    : Type 0 where
  pub from : s.first ≤ first
  pub up_to : last ≤ s.last
  pub refused : Refuses first (last + 1) e

-- States that this failure can stop a survey whose family is known. A campaign is rejected, standard output cannot be
-- written, memory ran out, or, if the survey writes campaigns to a folder, a file cannot be written.
abbrev pub IsStopped : Survey → (ℕ → ℕ → ScenarioError → Type 0) → SurveyFailure → Type 0
IsStopped s Refuses (Campaign first last e) = IsCampaign s Refuses first last e
IsStopped s Refuses (Unwritten None) = ⊤
IsStopped s Refuses (Unwritten (Some name)) = is_some s.keep ≡ true
IsStopped s Refuses Memory = ⊤
IsStopped s Refuses _ = ⊥

-- ---- a whole survey

-- States that this failure can keep a survey from being finished: the file with the traitors' program cannot be read or
-- is rejected, or the survey is stopped later.
abbrev pub IsUnended : Survey → (Family → ℕ → ℕ → ScenarioError → Type 0) → SurveyFailure → Type 0
IsUnended s Refuses (Unread name) =
    IsFile (string_bytes s.adversary) × (string_bytes name ≡ string_bytes s.adversary)
IsUnended s Refuses (NotText name) =
    IsFile (string_bytes s.adversary) × (string_bytes name ≡ string_bytes s.adversary)
IsUnended s Refuses (Refused line) =
    IsFile (string_bytes s.adversary) × (text : List ℕ) × IsRefusedBy text (string_bytes line)
IsUnended s Refuses (Campaign first last e) =
    (f : Family) × IsFamilyOf s f × IsCampaign s (Refuses f) first last e
IsUnended s Refuses (Unwritten None) = ⊤
IsUnended s Refuses (Unwritten (Some name)) = is_some s.keep ≡ true
IsUnended s Refuses Memory = ⊤
IsUnended s Refuses Words = ⊥

-- States that a campaign of one of these seeds is rejected with this error. With `--shrink` this may be a reduced
-- campaign, and otherwise it is the campaign that the seed gives.
abbrev pub IsDrawnRefused : ReportKind → Family → ℕ → ℕ → ScenarioError → Type 0
IsDrawnRefused Least f = Lessened.IsRefusedIn (plot_of f)
IsDrawnRefused _ f = IsRefusedIn f

-- States that this failure can keep a survey without `--break` from being finished.
abbrev pub IsUnsurveyed : Survey → SurveyFailure → Type 0
IsUnsurveyed s = IsUnended s (IsDrawnRefused s.shape)

-- Never holds: no campaign is rejected if none is played.
abbrev pub NoneIsRefused : Family → ℕ → ℕ → ScenarioError → Type 0
NoneIsRefused f first end e = ⊥

-- States that a campaign in the search of `--break` is rejected with this error, for some number of generals and some
-- bound.
pub record IsSearchRefused (s : Survey) (f : Family) (first end : ℕ) (e : ScenarioError) : Type 0 where
  pub generals : ℕ
  pub bound : ℕ
  pub refused : IsRefusedWith f generals bound (cut_to generals s.traitors) first end e
