-- Defines why listed accesses cannot happen in a campaign, and why a run with threads made no chronicle.
use Rattle.std.specs.Prelude.{ℕ, ◌≢◌, List}
use Rattle.campaign_schedules.specs.Arranged.{IsUnarranged}
use Rattle.scenario.specs.Reading.{TellsAny}
use Rattle.scenario.specs.declared.messages.Campaign.{Campaign}
use Rattle.threads.specs.Outcomes.{IsErrorFor}
use Rattle.threads.specs.declared.error.MusterError.TheVariants as muster
use Rattle.threads.specs.declared.outcomes.Outcomes.{Outcomes}
use Rattle.cli_tasks.specs.declared.refusal.InputRefusal.{InputRefusal}
use Rattle.cli_tasks.specs.declared.refusal.InputRefusal.TheVariants.{Threads, Accesses, Memory}
use Rattle.cli_tasks.specs.Explained.{scenario_of}
use Rattle.cli_tasks.specs.Refusals.{RefusesCampaign}
use Rattle.cli_tasks.specs.Retracing.{kind_of}

-- States why `schedule` rejects a campaign with the accesses in `list`: the text is not a campaign, the list or
-- one of its accesses has this first fault, or memory ran out.
abbrev pub RefusesListed : List ℕ → List ℕ → InputRefusal → Type 0
RefusesListed list text (Accesses fault) =
    (c : Campaign) × TellsAny text c × IsUnarranged (kind_of c) (scenario_of c) list fault
RefusesListed list text refusal = RefusesCampaign text refusal

-- States that a run with threads made no chronicle, with an error other than M1 that some ends of threads have, or that
-- memory ran out.
abbrev pub RefusesMuster : InputRefusal → Type 0
RefusesMuster (Threads error) = (error ≢ muster.Memory) × ((o : Outcomes) × IsErrorFor o error)
RefusesMuster Memory = Unit {0}
RefusesMuster _ = ⊥
