-- The result of a surveyed campaign: its numbers, and the verdict on it if it is played without a schedule.
use Rattle.std.specs.Prelude.{ℕ, ◌≡◌, ◌≢◌, ◌≤◌, ◌<◌, List, [], count_by, Err}
use Rattle.std.specs.List.{range_with_len}
use Rattle.toml.specs.Parse.{parse_document}
use Rattle.scenario.specs.Reading.{ReadsAny, TellsAny}
use Rattle.scenario.specs.declared.fault.ScenarioError.{ScenarioError}
use Rattle.scenario.specs.declared.fault.ScenarioError.TheVariants.{Memory}
use Rattle.scenario.specs.declared.messages.Campaign.{Campaign}
use Rattle.scenario.specs.declared.messages.Campaign.TheVariants.{Oral, Signed}
use Rattle.round.specs.Scenario.{Scenario, is_traitor}
use Rattle.signed.specs.Chronicle.{signed_chronicle_of}
use Rattle.signed.specs.Kind.{played}
use Rattle.world.specs.Chronicle.{chronicle_of}
use Rattle.world.specs.Lists.{listed}
use Rattle.world.specs.Promises.{IsWellUnderBound}
use Rattle.world.specs.World.{opening, run}
use Rattle.world.specs.declared.verdict.Verdict.{Verdict}
use Rattle.surveys.specs.declared.finding.Finding.{Finding}
use Rattle.surveys.specs.Family.{Family}
use Rattle.surveys.specs.Wording.{campaign_text}

-- Returns the verdict on a campaign if it is played with the empty schedule.
abbrev pub verdict_in : Campaign → Verdict
verdict_in (Oral s) = (chronicle_of (run (opening s) (listed s []))).verdict
verdict_in (Signed s) = (signed_chronicle_of (played s (listed s []))).verdict

-- States that the text describes a campaign and that `v` is the verdict on it. If the bound holds, the verdict says
-- that IC1 and IC2 hold.
pub record IsJudged (text : List ℕ) (v : Verdict) : Type 0 where
  pub campaign : Campaign
  pub told : TellsAny text campaign
  pub verdict : v ≡ verdict_in campaign
  pub well : IsWellUnderBound v

-- States that the text describes no campaign and that `e` is its first fault.
abbrev pub IsRefused : List ℕ → ScenarioError → Type 0
IsRefused text e = ReadsAny (parse_document text) (Err e)

-- Returns the scenario of an oral or signed campaign.
abbrev pub scenario_in : Campaign → Scenario
scenario_in (Oral s) = s
scenario_in (Signed s) = s

-- Returns how many traitors a scenario has.
abbrev pub traitors_in : Scenario → ℕ
traitors_in s = count_by (is_traitor s) (range_with_len 0 s.generals)

-- States that `found` is the result of the campaign that the text describes. Its seed is `by`, and its numbers and the
-- verdict are those of that campaign. If the bound holds, the verdict says that IC1 and IC2 hold.
pub record IsFound (text : List ℕ) (by : ℕ) (found : Finding) : Type 0 where
  pub campaign : Campaign
  pub told : TellsAny text campaign
  pub seed : found.seed ≡ by
  pub generals : found.generals ≡ (scenario_in campaign).generals
  pub bound : found.bound ≡ (scenario_in campaign).bound
  pub traitors : found.traitors ≡ traitors_in (scenario_in campaign)
  pub verdict : found.verdict ≡ verdict_in campaign
  pub well : IsWellUnderBound found.verdict

-- States that `found` is the result of the campaign that the seed draws from the family.
abbrev pub IsFindingOf : Family → ℕ → Finding → Type 0
IsFindingOf f seed found = IsFound (campaign_text f seed) seed found

-- States that `e` is the first fault of the text of the campaign that the seed draws from the family, or that memory
-- ran out.
abbrev pub IsRefusedBy : Family → ℕ → ScenarioError → Type 0
IsRefusedBy f seed e = e ≢ Memory → IsRefused (campaign_text f seed) e

-- States that `e` is the first fault of the text of a campaign that a seed from `first` to `end` - 1 draws from the
-- family.
pub record IsRefusedIn (f : Family) (first end : ℕ) (e : ScenarioError) : Type 0 where
  pub seed : ℕ
  pub behind : first ≤ seed
  pub before : seed < end
  pub refused : IsRefused (campaign_text f seed) e
