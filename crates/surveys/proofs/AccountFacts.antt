-- Facts about the account of a campaign.
use Rattle.std.proofs.Common.{ℕ, ◌≡◌, List}
use Rattle.std.specs.Prelude.{filter}
use Rattle.std.specs.List.{range_with_len}
use Rattle.round.specs.Scenario.{is_traitor}
use Rattle.scenario.specs.Reading.{TellsAny}
use Rattle.scenario.specs.declared.messages.Campaign.{Campaign}
use Rattle.world.specs.Promises.{IsWellUnderBound}
use Rattle.surveys.specs.Account.{Account}
use Rattle.surveys.specs.Accounting.{IsAccount, decisions_in}
use Rattle.surveys.specs.Judging.{scenario_in, traitors_in, verdict_in}

pub is_account : (text : List ℕ) (by : ℕ) (k : Campaign) (a : Account) → TellsAny text k → a.finding.seed ≡ by → a.finding.generals ≡ (scenario_in k).generals → a.finding.bound ≡ (scenario_in k).bound
    → a.finding.traitors ≡ traitors_in (scenario_in k) → a.finding.verdict ≡ verdict_in k → IsWellUnderBound a.finding.verdict → a.order ≡ (scenario_in k).order
    → a.traitors ≡ filter (is_traitor (scenario_in k)) (range_with_len 0 (scenario_in k).generals) → a.decisions ≡ decisions_in k → IsAccount text by a
is_account text by k a told seed generals bound count verdict well order traitors decisions =
    record {
      found = record { campaign = k; told = told; seed = seed; generals = generals; bound = bound; traitors = count; verdict = verdict; well = well };
      order = order;
      traitors = traitors;
      decisions = decisions;
    }
