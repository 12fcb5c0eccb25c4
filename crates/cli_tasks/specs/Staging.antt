-- Defines what `refute --scenario` and `exhaust --scenario` print: a message table as a scenario, in which the traitors'
-- programs send what the table says.
use Rattle.std.specs.Prelude.{ℕ, ◌≡◌, Bool, true, false, List, ◌++◌, filter, Option, Some, Ok}
use Rattle.combine.specs.declared.campaign_rule.Rule.{Rule}
use Rattle.label.specs.Labels.{generals}
use Rattle.book.specs.Grammar.{table_told}
use Rattle.book.specs.Numbers.{numbers_in}
use Rattle.book.specs.Table.{MessageTable}
use Rattle.bounds.specs.Refutation.{IsAsked, Refutes}
use Rattle.bounds.specs.Stories.{is_traitor_in}
use Rattle.bounds.specs.declared.story.Story.{Story}
use Rattle.table_scenario.specs.Scenarios.{is_short, scenario_text}
use Rattle.cli_tasks.specs.TableRefusals.{RefusesRefutation}
use Rattle.cli_tasks.specs.declared.refusal.InputRefusal.{InputRefusal}
use Rattle.cli_tasks.specs.declared.refusal.InputRefusal.TheVariants.{LongScenario}

-- Returns the traitors of a story among n generals with the commander c.
abbrev pub traitors_of : Story → ℕ → ℕ → List ℕ
traitors_of story n c = filter (is_traitor_in story c) (generals n)

-- States that a text is the scenario of the message table that `refute` prints without `--scenario`, which is `source`.
-- The traitors are those of its story.
pub record StagesRefutation (n m c : List ℕ) (rule : Rule) (asked : Option Story) (text : List ℕ) : Type 0 where
  pub source : List ℕ
  pub refutes : Refutes n m c rule asked source
  pub table : MessageTable
  pub read : table_told source ≡ Ok table
  pub story : Story
  pub chosen : IsAsked asked rule table.generals table.commander table.bound story
  pub staged : text ≡ scenario_text table (traitors_of story table.generals table.commander)

-- States that a text is what `refute` prints: its message table or, if the flag is set, the scenario of this table.
abbrev pub ShowsRefutation : Bool → List ℕ → List ℕ → List ℕ → Rule → Option Story → List ℕ → Type 0
ShowsRefutation false n m c rule asked text = Refutes n m c rule asked text
ShowsRefutation true n m c rule asked text = StagesRefutation n m c rule asked text

-- States that the numbers are those of a campaign in which a traitor's program could be too long.
abbrev pub AreLong : List ℕ → List ℕ → List ℕ → Type 0
AreLong n m c =
    (numbers : ℕ × ℕ × ℕ × Rule) × (numbers_in n m c ≡ Some numbers) × (is_short numbers.0 numbers.1 ≡ false)

-- States why `refute` prints nothing: there is no table or, if the flag is set and a scenario is asked for, the program of
-- a traitor could be too long.
abbrev pub RefusesShown : Bool → List ℕ → List ℕ → List ℕ → InputRefusal → Type 0
RefusesShown staged n m c LongScenario = (staged ≡ true) × AreLong n m c
RefusesShown staged n m c refusal = RefusesRefutation n m c refusal

-- States that a text shows a break: the line of its traitors and the message table or, if the flag is set, the scenario.
abbrev pub IsBreakText : Bool → List ℕ → List ℕ → List ℕ → List ℕ → Type 0
IsBreakText false line traitors table text = text ≡ line ++ table
IsBreakText true line traitors table text =
    (t : MessageTable) × (table_told table ≡ Ok t) × (text ≡ scenario_text t traitors)
