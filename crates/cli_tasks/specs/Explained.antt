-- Defines which campaigns can be played with an explanation, and why a file or the lieutenant whose decision is
-- explained is rejected (own).
use Rattle.std.specs.Prelude.{ℕ, ◌≡◌, Bool, List, [], Option, None, Some}
use Rattle.cli_words.specs.declared.tasks.Lieutenants.{Lieutenants}
use Rattle.cli_words.specs.declared.tasks.Lieutenants.TheVariants.{One}
use Rattle.round.specs.Scenario.{Scenario}
use Rattle.scenario.specs.declared.messages.Campaign.{Campaign}
use Rattle.scenario.specs.declared.messages.Campaign.TheVariants.{Oral, Signed}
use Rattle.cli_tasks.specs.Refusals.{RefusesAsked}
use Rattle.cli_tasks.specs.Schedules.{TellsCampaign}
use Rattle.cli_tasks.specs.Strangers.{stranger_to_tree}
use Rattle.cli_tasks.specs.declared.refusal.InputRefusal.{InputRefusal}
use Rattle.cli_tasks.specs.declared.refusal.InputRefusal.TheVariants.{Stranger}

-- Returns the scenario of a campaign, which does not say whether its messages are oral or signed.
abbrev pub scenario_of : Campaign → Scenario
scenario_of (Oral s) = s
scenario_of (Signed s) = s

-- Returns the general whose decision should be explained, if he is not a lieutenant of the campaign. Returns `None` if
-- he is one, or if no single general is named.
abbrev pub stranger_asked : Scenario → Option Lieutenants → Option ℕ
stranger_asked s (Some (One general)) = stranger_to_tree s.generals s.commander general []
stranger_asked s _ = None

-- States that the file describes this campaign, and that the general whose decision should be explained, if one is
-- named, is a lieutenant of it. Unless `any` is set, the campaign must be oral.
abbrev pub TellsAsked : Bool → Option Lieutenants → List ℕ → Campaign → Type 0
TellsAsked any explained bytes c = TellsCampaign any bytes c × (stranger_asked (scenario_of c) explained ≡ None)

-- States why a task that may explain decisions rejects a text. The text is not a campaign, or `any` is not set and it
-- is not an oral campaign. Or the general whose decision should be explained is not a lieutenant of the campaign, and
-- the refusal names him.
abbrev pub RefusesExplained : Bool → Option Lieutenants → List ℕ → InputRefusal → Type 0
RefusesExplained any explained text (Stranger general generals) =
    (c : Campaign) × TellsCampaign any text c × ((scenario_of c).generals ≡ generals)
    × (stranger_asked (scenario_of c) explained ≡ Some general)
RefusesExplained any explained text refusal = RefusesAsked any text refusal
