-- Defines what a survey prints about its campaigns, and which campaigns it writes to files (docs/FORMATS.md,
-- "Surveys").
use Rattle.std.specs.Prelude.{ℕ, ◌≡◌, ◌+◌, Bool, true, false, cond, List, [], ◌∷◌, ◌++◌, length, map, filter, flat_map, decimal, codes, Option, None, Some}
use Rattle.std.specs.List.{AllZip}
use Rattle.std.specs.Io.KnownBytes.{Appends}
use Rattle.rayon.specs.Numbers.{nat_range}
use Rattle.surveys.specs.declared.finding.Finding.{Finding}
use Rattle.surveys.specs.Family.{Family}
use Rattle.surveys.specs.Heads.{head_text}
use Rattle.surveys.specs.Account.{Account}
use Rattle.surveys.specs.Accounting.{IsAccountOf, account_text}
use Rattle.surveys.specs.Judging.{IsFindingOf}
use Rattle.surveys.specs.Lines.{line_text}
use Rattle.surveys.specs.Plotting.{plot_of}
use Rattle.surveys.specs.Sums.{is_sound}
use Rattle.surveys.specs.Wording.{campaign_text, plot_text}
use Rattle.surveys.specs.Counts.{sums_text}
use Rattle.surveys.specs.Covering.{seeds_in}
use Rattle.surveys.specs.Csv.{csv_text}
use Rattle.surveys.specs.Groups.{is_occupied}
use Rattle.surveys.specs.Pictures.{picture_text}
use Rattle.surveys.specs.Running.{Counts, counts_of}
use Rattle.surveys.specs.Tables.{table_text}
use Rattle.surveys.specs.declared.breach.Breach.{Breach}
use Rattle.surveys.specs.Breaches.{IsLeastOf, IsShrunk, statements}
use Rattle.surveyor.specs.declared.task.ReportKind.{ReportKind}
use Rattle.surveyor.specs.declared.task.ReportKind.TheVariants.{Sums, Lines, Accounts, Table, Csv, Picture, Least}
use Rattle.surveyor.specs.declared.task.OneCampaign.{OneCampaign}
use Rattle.surveyor.specs.declared.task.Survey.{Survey}
use Rattle.surveyor.specs.Kept.{File, Gains, breach_files, campaign_files}
use Rattle.surveyor.specs.Words.{IsFamilyOf}

-- Returns the summary with these counts, which is printed at the end. It depends on the form of output.
abbrev pub counts_text : ReportKind → Counts → List ℕ
counts_text Sums c = sums_text c.sums
counts_text Table c = table_text (filter is_occupied c.groups)
counts_text Csv c = csv_text (filter is_occupied c.groups)
counts_text Picture c = picture_text (filter is_occupied c.groups)
counts_text Lines c = []
counts_text Accounts c = []
counts_text Least c = []

-- Returns the summary of campaigns.
abbrev pub summary_text : ReportKind → List Finding → List ℕ
summary_text shape found = counts_text shape (counts_of found)

-- Returns a line for each of these campaigns with `--lines`. Returns no text in any other form of output.
abbrev pub lines_in : ReportKind → List Finding → List ℕ
lines_in Lines found = flat_map line_text found
lines_in _ found = []

-- Returns the first line of the output of `--lines`, which describes the family. Returns no text in any other form of
-- output.
abbrev pub head_in : ReportKind → Family → List ℕ
head_in Lines f = head_text f
head_in _ f = []

-- Returns the seeds of the broken campaigns: those in which the loyal lieutenants do not agree, or do not obey a loyal
-- commander.
abbrev pub broken_seeds : List Finding → List ℕ
broken_seeds [] = []
broken_seeds (f ∷ found) = cond (is_sound f.verdict) (broken_seeds found) (f.seed ∷ broken_seeds found)

-- Returns the seeds of the campaigns that are written to files: of all campaigns if the flag is set, and otherwise of
-- the broken ones.
abbrev pub kept_seeds : Bool → List Finding → List ℕ
kept_seeds true found = seeds_in found
kept_seeds false found = broken_seeds found

-- States that `text` is what the survey prints about the campaigns of its seeds, and that `files` are the broken ones
-- or, with `--keep-all`, all.
pub record IsPlayed (s : Survey) (f : Family) (text : List ℕ) (files : List File) : Type 0 where
  pub found : List Finding
  pub all : AllZip (IsFindingOf f) (nat_range s.first (s.last + 1)) found
  pub whole : text ≡ head_in s.shape f ++ (lines_in s.shape found ++ summary_text s.shape found)
  pub kept : files ≡ campaign_files s.keep f (kept_seeds s.keeps_all found)

-- States that `text` has the first line, which describes the family, and a line for each campaign, with its traitors,
-- its order and the decisions. `files` are the broken campaigns or, with `--keep-all`, all.
pub record IsAccounted (s : Survey) (f : Family) (text : List ℕ) (files : List File) : Type 0 where
  pub all : List Account
  pub each : AllZip (IsAccountOf f) (nat_range s.first (s.last + 1)) all
  pub whole : text ≡ head_text f ++ flat_map account_text all
  pub kept : files ≡ campaign_files s.keep f (kept_seeds s.keeps_all (map (λ (a : Account). a.finding) all))

-- Returns the comment line that is printed before a reduced campaign, such as `# seed 5: 1 traitors, 2 statements`.
abbrev pub least_head : ℕ → ℕ → ℕ → List ℕ
least_head seed traitors statements = codes "# seed "
    ++ (decimal seed ++ (codes ": "
    ++ (decimal traitors ++ (codes " traitors, " ++ (decimal statements ++ codes " statements\n")))))

-- Returns the least reduced campaign as a scenario, after its comment line. Returns only a comment if no campaign is
-- broken.
abbrev pub least_text : Option Breach → List ℕ
least_text None = codes "# no campaign is broken\n"
least_text (Some b) = least_head b.seed (length b.plot.traitors) (statements b.plot) ++ plot_text b.plot

-- States that `text` is the least reduced campaign of the survey's seeds, and that `files` are all reduced campaigns.
pub record IsShrunken (s : Survey) (f : Family) (text : List ℕ) (files : List File) : Type 0 where
  pub all : List (Option Breach)
  pub shrunk : AllZip (IsShrunk (plot_of f)) (nat_range s.first (s.last + 1)) all
  pub found : Option Breach
  pub least : IsLeastOf all found
  pub whole : text ≡ least_text found
  pub kept : files ≡ breach_files s.keep all

-- States that `found` is the least reduced campaign of the survey's seeds, and that all reduced campaigns were written
-- to files.
pub record IsLeastKept (s : Survey) (f : Family) (before after : Option (List File)) (found : Option Breach)
    : Type 0 where
  pub all : List (Option Breach)
  pub shrunk : AllZip (IsShrunk (plot_of f)) (nat_range s.first (s.last + 1)) all
  pub least : IsLeastOf all found
  pub kept : Gains before after (breach_files s.keep all)

-- States that `text` and `files` are what a survey with this form of output prints and writes.
abbrev pub IsToldIn : ReportKind → Survey → Family → List ℕ → List File → Type 0
IsToldIn Least s f text files = IsShrunken s f text files
IsToldIn Accounts s f text files = IsAccounted s f text files
IsToldIn _ s f text files = IsPlayed s f text files

-- States that the survey printed and wrote to files what it asks for. Its campaigns are those of the family `f`.
pub record IsPrinted (s : Survey) (f : Family) (old new : Option (List ℕ)) (before after : Option (List File))
    : Type 0 where
  pub text : List ℕ
  pub files : List File
  pub told : IsToldIn s.shape s f text files
  pub written : Appends old new text
  pub kept : Gains before after files

-- States that the survey printed and wrote to files what it asks for. Its campaigns are those of the family that it
-- asks for.
pub record IsSurveyed (s : Survey) (old new : Option (List ℕ)) (before after : Option (List File)) : Type 0 where
  pub family : Family
  pub asked : IsFamilyOf s family
  pub printed : IsPrinted s family old new before after

-- States that the campaign which the seed gives in the family of the survey is printed. A survey plays the same text
-- for this seed (`IsFindingOf`).
pub record IsCampaignPrinted (c : OneCampaign) (old new : Option (List ℕ)) : Type 0 where
  pub family : Family
  pub asked : IsFamilyOf c.survey family
  pub written : Appends old new (campaign_text family c.seed)
