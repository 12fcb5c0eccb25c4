-- Defines the campaign and the schedule that two files describe, and the chronicle of the campaign when it is played by
-- the schedule.
use Rattle.std.specs.Prelude.{ℕ, ◌≡◌, Bool, true, false, List, [], Option, None, Some, Ok}
use Rattle.cli_words.specs.declared.tasks.Account.{Account}
use Rattle.cli_words.specs.declared.tasks.Account.TheVariants as accounts
use Rattle.round.specs.Scenario.{Scenario}
use Rattle.world.specs.declared.schedule.Repeat.{Repeat}
use Rattle.world.specs.Chronicle.{Chronicle, chronicle_of}
use Rattle.world.specs.Lists.{listed}
use Rattle.world.specs.Schedules.{lines_by}
use Rattle.world.specs.World.{opening, run}
use Rattle.scenario.specs.Reading.{TellsAny}
use Rattle.scenario.specs.Reading as oral
use Rattle.scenario.specs.declared.messages.Campaign.{Campaign}
use Rattle.scenario.specs.declared.messages.Campaign.TheVariants.{Oral, Signed}
use Rattle.signed.specs.Kind as signed
use Rattle.signed.specs.Chronicle.{signed_chronicle_of}
use Rattle.trace.specs.Schedules.{schedule_told}

-- Returns the chronicle of an oral campaign when it is played by the schedule.
abbrev pub played : Scenario → List (List Repeat) → Chronicle
played s schedule = chronicle_of (run (opening s) (listed s (lines_by schedule)))

-- Returns the chronicle of a signed campaign when it is played by the schedule.
abbrev pub signed_played : Scenario → List (List Repeat) → Chronicle
signed_played s schedule = signed_chronicle_of (signed.played s (listed s (lines_by schedule)))

-- Checks whether the chronicle of a campaign is asked for, and not its message table, which only an oral campaign has.
abbrev pub is_chronicle : Account → Bool
is_chronicle accounts.Chronicle = true
is_chronicle accounts.Table = false

-- States that the bytes describe this campaign. If the flag is not set, a message table is asked for, and the campaign
-- must be oral.
abbrev pub TellsCampaign : Bool → List ℕ → Campaign → Type 0
TellsCampaign true bytes c = TellsAny bytes c
TellsCampaign false bytes (Oral s) = oral.Tells bytes s
TellsCampaign false bytes (Signed s) = ⊥

-- States that the second file describes this schedule. If there is no second file, the schedule is empty.
abbrev pub IsSchedule : Option (List ℕ) → List (List Repeat) → Type 0
IsSchedule None schedule = schedule ≡ []
IsSchedule (Some bytes) schedule = schedule_told bytes ≡ Ok schedule
