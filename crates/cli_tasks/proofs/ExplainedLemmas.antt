-- Lemmas about reading campaigns whose decisions may be explained.
use Rattle.std.proofs.Common.{ℕ, ◌≡◌, Bool, true, false, List, sym}
use Rattle.std.specs.Prelude.{None, Option}
use Rattle.cli_words.specs.declared.tasks.Lieutenants.{Lieutenants}
use Rattle.scenario.specs.declared.messages.Campaign.{Campaign}
use Rattle.cli_tasks.specs.Explained.{RefusesExplained, TellsAsked, scenario_of, stranger_asked}
use Rattle.cli_tasks.specs.Refusals.{RefusesAsked, RefusesText}
use Rattle.cli_tasks.specs.Schedules.{TellsCampaign}
use Rattle.cli_tasks.specs.Strangers.{IsOf}
use Rattle.cli_tasks.specs.declared.refusal.InputRefusal.{InputRefusal}
use Rattle.cli_tasks.specs.declared.refusal.InputRefusal.TheVariants.{Codec, Object, Verifier, Assembly, Table, Scenario, Setting, Trace, Threads, Accesses, Stranger, Tolerated, RuleCall, LongSearch, LongScenario, NotText, Memory}

-- A campaign is accepted if the general whose decision is explained is a lieutenant.
pub told_asked : (any : Bool) (explained : Option Lieutenants) (bytes : List ℕ) (c : Campaign) → TellsCampaign any bytes c → stranger_asked (scenario_of c) explained ≡ None → TellsAsked any explained bytes c
told_asked any explained bytes c tells none = (tells, none)

-- A text that is not a campaign is rejected.
pub unread_asked : (any : Bool) (explained : Option Lieutenants) (bytes : List ℕ) (refusal : InputRefusal) → RefusesText (RefusesAsked any) bytes refusal → RefusesText (RefusesExplained any explained) bytes refusal
unread_asked any explained bytes (Codec error) refuses = refuses
unread_asked any explained bytes (Object fault) refuses = refuses
unread_asked any explained bytes (Verifier fault) refuses = refuses
unread_asked any explained bytes (Assembly error) refuses = refuses
unread_asked any explained bytes (Table error) refuses = refuses
unread_asked any explained bytes (Scenario error) refuses = refuses
unread_asked any explained bytes (Setting error) refuses = refuses
unread_asked any explained bytes (Trace error) refuses = refuses
unread_asked any explained bytes (Threads error) refuses = refuses
unread_asked any explained bytes (Accesses fault) refuses = refuses
unread_asked true explained bytes (Stranger g n) refuses = absurd refuses
unread_asked false explained bytes (Stranger g n) refuses = absurd refuses
unread_asked any explained bytes Tolerated refuses = refuses
unread_asked any explained bytes (RuleCall unit) refuses = refuses
unread_asked any explained bytes (LongSearch steps) refuses = refuses
unread_asked any explained bytes LongScenario refuses = refuses
unread_asked any explained bytes NotText refuses = refuses
unread_asked any explained bytes Memory refuses = refuses

-- A campaign is rejected if the general whose decision is explained is not a lieutenant.
pub strange_asked : (any : Bool) (explained : Option Lieutenants) (bytes : List ℕ) (c : Campaign) (refusal : InputRefusal) → TellsCampaign any bytes c → IsOf (scenario_of c).generals (stranger_asked (scenario_of c) explained) refusal
    → RefusesText (RefusesExplained any explained) bytes refusal
strange_asked any explained bytes c (Codec error) tells strange = absurd strange
strange_asked any explained bytes c (Object fault) tells strange = absurd strange
strange_asked any explained bytes c (Verifier fault) tells strange = absurd strange
strange_asked any explained bytes c (Assembly error) tells strange = absurd strange
strange_asked any explained bytes c (Table error) tells strange = absurd strange
strange_asked any explained bytes c (Scenario error) tells strange = absurd strange
strange_asked any explained bytes c (Setting error) tells strange = absurd strange
strange_asked any explained bytes c (Trace error) tells strange = absurd strange
strange_asked any explained bytes c (Threads error) tells strange = absurd strange
strange_asked any explained bytes c (Accesses fault) tells strange = absurd strange
strange_asked any explained bytes c (Stranger g n) tells strange = (c, tells, sym strange.0, strange.1)
strange_asked any explained bytes c Tolerated tells strange = absurd strange
strange_asked any explained bytes c (RuleCall unit) tells strange = absurd strange
strange_asked any explained bytes c (LongSearch steps) tells strange = absurd strange
strange_asked any explained bytes c LongScenario tells strange = absurd strange
strange_asked any explained bytes c NotText tells strange = absurd strange
strange_asked any explained bytes c Memory tells strange = absurd strange

pub ruleset campaign_asked = (told_asked, unread_asked, strange_asked)
