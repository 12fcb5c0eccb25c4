-- Lemmas about why a survey cannot be finished.
use Rattle.std.proofs.Common.{ℕ, ◌+◌, ◌-◌, ◌<◌, ◌≤◌, ◌≡◌, ◌≢◌, arith, refl, subst, sym, true, is_some, Bool, List, None, Some, get_or, length}
use Rattle.std.specs.Prelude.{String, string_bytes}
use Rattle.std.specs.Global.{Global}
use Rattle.scenario.specs.declared.fault.ScenarioError.{ScenarioError}
use Rattle.scenario.specs.declared.fault.ScenarioError.TheVariants as scenario
use Rattle.surveys.specs.Family.{Family}
use Rattle.surveys.specs.Judging.{IsRefusedIn}
use Rattle.surveys.specs.Plotting.{plot_of}
use Rattle.surveys.specs.Breaches as Lessened
use Rattle.surveyor.specs.declared.task.ReportKind.{ReportKind}
use Rattle.surveyor.specs.declared.task.ReportKind.TheVariants.{Sums, Lines, Accounts, Table, Csv, Picture, Least}
use Rattle.surveyor.specs.declared.task.Survey.{Survey}
use Rattle.surveyor.specs.declared.fault.SurveyFailure.{SurveyFailure}
use Rattle.surveyor.specs.declared.fault.SurveyFailure.TheVariants.{Unread, NotText, Unwritten, Refused, Campaign, Words, Memory}
use Rattle.surveyor.specs.Ends.{IsDrawnRefused, IsStopped, IsUnended, IsUnsurveyed}
use Rattle.surveyor.specs.declared.task.Merge.{Merge}
use Rattle.surveyor.specs.Faults.{IsFile, IsKeptIn, IsUnkept, IsUnkeptIn, IsUnprinted, IsUnread, IsUnsummed, IsUntaken, IsUntold}
use Rattle.surveyor.specs.Words.{IsFamilyOf}

pub stopped_printing : (s : Survey) (R : ℕ → ℕ → ScenarioError → Type 0) (fault : SurveyFailure) → IsUnprinted fault → IsStopped s R fault
stopped_printing s R (Unwritten None) h = tt
stopped_printing s R (Unwritten (Some name)) h = absurd h
stopped_printing s R Memory h = tt
stopped_printing s R (Unread name) h = absurd h
stopped_printing s R (NotText name) h = absurd h
stopped_printing s R (Refused line) h = absurd h
stopped_printing s R (Campaign first last e) h = absurd h
stopped_printing s R Words h = absurd h

pub stopped_keeping : (s : Survey) (R : ℕ → ℕ → ScenarioError → Type 0) (fault : SurveyFailure) → IsKeptIn (is_some s.keep) fault → IsStopped s R fault
stopped_keeping s R (Unwritten None) h = absurd h
stopped_keeping s R (Unwritten (Some name)) h = h
stopped_keeping s R Memory h = tt
stopped_keeping s R (Unread name) h = absurd h
stopped_keeping s R (NotText name) h = absurd h
stopped_keeping s R (Refused line) h = absurd h
stopped_keeping s R (Campaign first last e) h = absurd h
stopped_keeping s R Words h = absurd h

pub stopped_by_memory : (s : Survey) (R : ℕ → ℕ → ScenarioError → Type 0) (fault : SurveyFailure) → fault ≡ Memory → IsStopped s R fault
stopped_by_memory s R fault is = subst (IsStopped s R) (sym is) tt

campaign_told : (s : Survey) (R : ℕ → ℕ → ScenarioError → Type 0) (first end : ℕ) (e : ScenarioError) (fault : SurveyFailure) → e ≢ scenario.Memory → (e ≢ scenario.Memory → fault ≡ Campaign first (end - 1) e) → (e ≢ scenario.Memory → R first end e)
    → s.first ≤ first → first < end → end ≤ s.last + 1 → IsStopped s R fault
campaign_told s R first end e fault ne told refuses from some up_to =
    let last : end - 1 ≤ s.last = omega arith in
    let whole : end ≡ end - 1 + 1 = omega arith in
    subst (IsStopped s R) (sym (told ne)) (record { from = from; up_to = last; refused = subst (λ (k : ℕ). R first k e) whole (refuses ne) })

-- If a campaign of some seeds is rejected or memory runs out, the survey is stopped.
pub stopped_campaign : (s : Survey) (R : ℕ → ℕ → ScenarioError → Type 0) (first end : ℕ) (e : ScenarioError) (fault : SurveyFailure) → (e ≡ scenario.Memory → fault ≡ Memory) → (e ≢ scenario.Memory → fault ≡ Campaign first (end - 1) e) → (e ≢ scenario.Memory → R first end e)
    → s.first ≤ first → first < end → end ≤ s.last + 1 → IsStopped s R fault
stopped_campaign s R first end scenario.Memory fault memory told refuses from some up_to = stopped_by_memory s R fault (memory refl)
stopped_campaign s R first end scenario.Toml fault memory told refuses from some up_to = campaign_told s R first end scenario.Toml fault (λ x. cc) told refuses from some up_to
stopped_campaign s R first end (scenario.Unknown at key) fault memory told refuses from some up_to = campaign_told s R first end (scenario.Unknown at key) fault (λ x. cc) told refuses from some up_to
stopped_campaign s R first end (scenario.At why place) fault memory told refuses from some up_to = campaign_told s R first end (scenario.At why place) fault (λ x. cc) told refuses from some up_to
stopped_campaign s R first end (scenario.Program general why) fault memory told refuses from some up_to = campaign_told s R first end (scenario.Program general why) fault (λ x. cc) told refuses from some up_to

-- A failure that stops a survey with a known family keeps it from being finished.
pub unended : (s : Survey) (R : Family → ℕ → ℕ → ScenarioError → Type 0) (f : Family) (fault : SurveyFailure) → IsFamilyOf s f → IsStopped s (R f) fault → IsUnended s R fault
unended s R f (Unwritten None) family h = tt
unended s R f (Unwritten (Some name)) family h = h
unended s R f Memory family h = tt
unended s R f (Unread name) family h = absurd h
unended s R f (NotText name) family h = absurd h
unended s R f (Refused line) family h = absurd h
unended s R f (Campaign first last e) family h = (f, family, h)
unended s R f Words family h = absurd h

-- A standard output that cannot be written keeps a survey from being finished.
pub unended_printing : (s : Survey) (R : Family → ℕ → ℕ → ScenarioError → Type 0) (fault : SurveyFailure) → IsUnprinted fault → IsUnended s R fault
unended_printing s R (Unwritten None) h = tt
unended_printing s R (Unwritten (Some name)) h = absurd h
unended_printing s R Memory h = tt
unended_printing s R (Unread name) h = absurd h
unended_printing s R (NotText name) h = absurd h
unended_printing s R (Refused line) h = absurd h
unended_printing s R (Campaign first last e) h = absurd h
unended_printing s R Words h = absurd h

pub unended_by_memory : (s : Survey) (R : Family → ℕ → ℕ → ScenarioError → Type 0) (fault : SurveyFailure) → fault ≡ Memory → IsUnended s R fault
unended_by_memory s R fault is = subst (IsUnended s R) (sym is) tt

-- A file with the traitors' program that cannot be used keeps a survey from being finished.
pub untaken : (s : Survey) (R : Family → ℕ → ℕ → ScenarioError → Type 0) (fault : SurveyFailure) → IsFile (string_bytes s.adversary) → IsUntaken (string_bytes s.adversary) fault → IsUnended s R fault
untaken s R (Unwritten None) file h = absurd h
untaken s R (Unwritten (Some name)) file h = absurd h
untaken s R Memory file h = tt
untaken s R (Unread name) file h = (file, h)
untaken s R (NotText name) file h = (file, h)
untaken s R (Refused line) file h = (file, h.0, h.1)
untaken s R (Campaign first last e) file h = absurd h
untaken s R Words file h = absurd h

-- The failure for one file with a campaign is a failure for some such file.
pub unkept_one : (name beside : List ℕ) (fault : SurveyFailure) → IsUnkept name beside fault → IsUnkeptIn fault
unkept_one name beside (Unwritten None) h = absurd h
unkept_one name beside (Unwritten (Some own)) h = tt
unkept_one name beside Memory h = tt
unkept_one name beside (Unread own) h = absurd h
unkept_one name beside (NotText own) h = absurd h
unkept_one name beside (Refused line) h = absurd h
unkept_one name beside (Campaign first last e) h = absurd h
unkept_one name beside Words h = absurd h

pub unkept_by_memory : (fault : SurveyFailure) → fault ≡ Memory → IsUnkeptIn fault
unkept_by_memory fault is = subst IsUnkeptIn (sym is) tt

pub kept_where : (is_kept : Bool) (fault : SurveyFailure) → is_kept ≡ true → IsUnkeptIn fault → IsKeptIn is_kept fault
kept_where is_kept (Unwritten None) some h = absurd h
kept_where is_kept (Unwritten (Some own)) some h = some
kept_where is_kept Memory some h = tt
kept_where is_kept (Unread own) some h = absurd h
kept_where is_kept (NotText own) some h = absurd h
kept_where is_kept (Refused line) some h = absurd h
kept_where is_kept (Campaign first last e) some h = absurd h
kept_where is_kept Words some h = absurd h

-- A folder to which no file can be written keeps a survey from being finished.
pub unopened : (s : Survey) (R : Family → ℕ → ℕ → ScenarioError → Type 0) (name beside : List ℕ) (fault : SurveyFailure) → is_some s.keep ≡ true → IsUnkept name beside fault → IsUnended s R fault
unopened s R name beside (Unwritten None) some h = absurd h
unopened s R name beside (Unwritten (Some own)) some h = some
unopened s R name beside Memory some h = tt
unopened s R name beside (Unread own) some h = absurd h
unopened s R name beside (NotText own) some h = absurd h
unopened s R name beside (Refused line) some h = absurd h
unopened s R name beside (Campaign first last e) some h = absurd h
unopened s R name beside Words some h = absurd h

-- A failure with `--shrink`, and a failure without it, keep a survey from being finished.
pub unended_least : (s : Survey) (f : Family) (fault : SurveyFailure) → s.shape ≡ Least → IsFamilyOf s f → IsStopped s (Lessened.IsRefusedIn (plot_of f)) fault → IsUnsurveyed s fault
unended_least s f fault is family h = unended s (IsDrawnRefused s.shape) f fault family (subst (λ (shape : ReportKind). IsStopped s (IsDrawnRefused shape f) fault) (sym is) h)

drawn : (shape : ReportKind) (s : Survey) (f : Family) (fault : SurveyFailure) → shape ≢ Least → IsStopped s (IsRefusedIn f) fault → IsStopped s (IsDrawnRefused shape f) fault
drawn Sums s f fault not h = h
drawn Lines s f fault not h = h
drawn Accounts s f fault not h = h
drawn Table s f fault not h = h
drawn Csv s f fault not h = h
drawn Picture s f fault not h = h
drawn Least s f fault not h = absurd (not refl)

pub unended_drawn : (s : Survey) (f : Family) (fault : SurveyFailure) → s.shape ≢ Least → IsFamilyOf s f → IsStopped s (IsRefusedIn f) fault → IsUnsurveyed s fault
unended_drawn s f fault not family h = unended s (IsDrawnRefused s.shape) f fault family (drawn s.shape s f fault not h)

pub unended_accounts : (s : Survey) (f : Family) (fault : SurveyFailure) → s.shape ≡ Accounts → IsFamilyOf s f → IsStopped s (IsRefusedIn f) fault → IsUnsurveyed s fault
unended_accounts s f fault is family h = unended s (IsDrawnRefused s.shape) f fault family (subst (λ (shape : ReportKind). IsStopped s (IsDrawnRefused shape f) fault) (sym is) h)

-- A file that cannot be read keeps `--sum` from reading all files.
pub unread_one : (m : Merge) (k : ℕ) (own : String Global) (fault : SurveyFailure) → k < length m.names.items → get_or m.names.items k own ≡ own → IsUnread (string_bytes own) fault → IsUntold m fault
unread_one m k own (Unread name) less at h = (k, own, less, at, sym h)
unread_one m k own (NotText name) less at h = absurd h
unread_one m k own (Unwritten name) less at h = absurd h
unread_one m k own Memory less at h = tt
unread_one m k own (Refused line) less at h = absurd h
unread_one m k own (Campaign first last e) less at h = absurd h
unread_one m k own Words less at h = absurd h

-- A failure while the files are read keeps `--sum` from being finished.
pub untold_summed : (m : Merge) (fault : SurveyFailure) → IsUntold m fault → IsUnsummed m fault
untold_summed m (Unread name) h = h
untold_summed m (NotText name) h = absurd h
untold_summed m (Unwritten name) h = absurd h
untold_summed m Memory h = tt
untold_summed m (Refused line) h = h
untold_summed m (Campaign first last e) h = absurd h
untold_summed m Words h = absurd h

pub unprinted_summed : (m : Merge) (fault : SurveyFailure) → IsUnprinted fault → IsUnsummed m fault
unprinted_summed m (Unwritten None) h = tt
unprinted_summed m (Unwritten (Some name)) h = absurd h
unprinted_summed m Memory h = tt
unprinted_summed m (Unread name) h = absurd h
unprinted_summed m (NotText name) h = absurd h
unprinted_summed m (Refused line) h = absurd h
unprinted_summed m (Campaign first last e) h = absurd h
unprinted_summed m Words h = absurd h

pub unsummed_by_memory : (m : Merge) (fault : SurveyFailure) → fault ≡ Memory → IsUnsummed m fault
unsummed_by_memory m fault is = subst (IsUnsummed m) (sym is) tt
