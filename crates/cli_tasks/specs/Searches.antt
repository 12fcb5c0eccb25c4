-- Defines what `exhaust` prints, a shortest break or the certificate that there is none, and why it prints nothing.
use Rattle.std.specs.Prelude.{ℕ, ◌≡◌, ◌<◌, ◌⊎◌, ◌++◌, Bool, true, false, List, Option, codes}
use Rattle.std.specs.Fmt.{decimal}
use Rattle.std.specs.List.{flat_map}
use Rattle.combine.specs.declared.campaign_rule.Rule.{Rule}
use Rattle.combine.specs.Rule.{combined_by}
use Rattle.lies.specs.Asked.{ToleratesAsked, first_asked}
use Rattle.lies.specs.BreakTable.{IsBreakTable}
use Rattle.lies.specs.Estimate.{steps as steps_of, stored}
use Rattle.lies.specs.Places.{AreMostPlaces}
use Rattle.lies.specs.Refusal.{IsRefused}
use Rattle.lies.specs.declared.refusal.BreakError.TheVariants as lies
use Rattle.table_scenario.specs.Scenarios.{is_short}
use Rattle.cli_tasks.specs.Staging.{IsBreakText}
use Rattle.cli_tasks.specs.declared.refusal.InputRefusal.{InputRefusal}
use Rattle.cli_tasks.specs.declared.refusal.InputRefusal.TheVariants.{Table, LongSearch, LongScenario, Memory}

-- The most steps that a search may take by its estimate.
abbrev pub most_steps : ℕ
most_steps = 100000000

-- Writes the line of a rule that no lies break. Traitors send up to `places` orders to loyal generals.
abbrev pub none_line : ℕ → List ℕ
none_line places = codes "none of 2^" ++ decimal places ++ codes "\n"

-- Writes the line that names the traitors of a break.
abbrev pub broken_line : List ℕ → List ℕ
broken_line traitors = codes "broken traitors" ++ flat_map (λ g. codes " " ++ decimal g) traitors ++ codes "\n"

-- States that OM(m) with the rule tolerates k traitors among n generals, and that the text says so.
abbrev pub SaysNone : ℕ → ℕ → ℕ → Option ℕ → Rule → List ℕ → Type 0
SaysNone n m k given rule text =
    ToleratesAsked (combined_by rule) n m k given
    × ((places : ℕ) × AreMostPlaces n m k places × (text ≡ none_line places))

-- States that the text shows a shortest break by at most k of n generals: its traitors and its message table or, if the
-- flag is set, its scenario.
abbrev pub ShowsBreak : ℕ → ℕ → ℕ → Option ℕ → Rule → Bool → List ℕ → Type 0
ShowsBreak n m k given rule staged text =
    (commander : ℕ) × (traitors table : List ℕ) × IsBreakTable rule n m given k commander traitors table
    × IsBreakText staged (broken_line traitors) traitors table text

-- States that the text decides whether k traitors among n generals break OM(m) with the rule, under the given commander
-- or under any: it says that they do not, or shows a shortest break, as a scenario if the flag is set.
abbrev pub Exhausts : ℕ → ℕ → ℕ → Option ℕ → Rule → Bool → List ℕ → Type 0
Exhausts n m k given rule staged text = SaysNone n m k given rule text ⊎ ShowsBreak n m k given rule staged text

-- States why `exhaust` prints nothing. The numbers are out of the limits of a message table. Or the search would
-- take too many steps, or a scenario is asked for in which the program of a traitor could be too long, or memory ran
-- out.
abbrev pub RefusesSearch : ℕ → ℕ → ℕ → Option ℕ → Bool → InputRefusal → Type 0
RefusesSearch n m k given staged (Table error) = IsRefused n m (first_asked given) (lies.Table error)
RefusesSearch n m k given staged (LongSearch steps) =
    (steps ≡ stored (steps_of n m given k)) × (most_steps < steps)
RefusesSearch n m k given staged LongScenario = (staged ≡ true) × (is_short n m ≡ false)
RefusesSearch n m k given staged Memory = Unit {0}
RefusesSearch n m k given staged _ = ⊥
