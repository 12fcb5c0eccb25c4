-- The first story that breaks a rule, and the message table of a story. The stories are three campaigns with too few
-- generals.
use Rattle.std.specs.Prelude.{ℕ, ◌*◌, ◌<◌, ◌≤◌, ◌≡◌, nat_lt, if◌then◌else◌, false, List, [], ◌∷◌, count_by, Option, None, Some, Result, Ok, Err}
use Rattle.std.specs.List.{AllByRecursion}
use Rattle.combine.specs.declared.campaign_rule.Rule.{Rule}
use Rattle.combine.specs.Names.{default_rule}
use Rattle.combine.specs.Rule.{combined_by}
use Rattle.label.specs.Labels.{generals}
use Rattle.label.specs.Oral.{om, IsFaithful, Agree}
use Rattle.book.specs.Grammar.{opened, table_told}
use Rattle.book.specs.Numbers.{numbers_in}
use Rattle.book.specs.declared.fault.TableError.{TableError}
use Rattle.book.specs.declared.fault.TableError.TheVariants.{Memory}
use Rattle.book.specs.Table.{MessageTable, told}
use Rattle.book.specs.WrittenLaws.{IsTableOf}
use Rattle.bounds.specs.Stories.{is_traitor_in, story_order, story_messages}
use Rattle.bounds.specs.declared.story.Story.{Story}
use Rattle.bounds.specs.declared.story.Story.TheVariants.{First, Second, Third}
use Rattle.bounds.specs.declared.refusal.RefutationError.{RefutationError}
use Rattle.bounds.specs.declared.refusal.RefutationError.TheVariants.{Table, Enough}

-- States that the decisions of OM(m) with a rule, from the messages of a story, satisfy IC1 and IC2.
abbrev pub AgreesIn : Rule → ℕ → ℕ → ℕ → Story → Type 0
AgreesIn rule n c m s =
    Agree n c (story_order s) (is_traitor_in s c) (om (combined_by rule) n (story_messages s c) m (c ∷ []))

-- Returns the stories that come before a story.
abbrev pub earlier : Story → List Story
earlier First = []
earlier Second = First ∷ []
earlier Third = First ∷ Second ∷ []

-- States that a story is the first in which a rule breaks IC1 or IC2.
pub record IsFirstBroken (rule : Rule) (n c m : ℕ) (s : Story) : Type 0 where
  pub broken : ¬ AgreesIn rule n c m s
  pub first : AllByRecursion (AgreesIn rule n c m) (earlier s)

-- States that a text is the message table of a story: parsing it gives a table with these numbers, this rule and the
-- messages of the story. At most m generals are traitors, and all others are faithful in the table.
pub record IsStoryTable (rule : Rule) (n c m : ℕ) (s : Story) (text : List ℕ) : Type 0 where
  pub table : MessageTable
  pub read : table_told text ≡ Ok table
  pub same : IsTableOf (story_messages s c) n m c rule table
  pub few : count_by (is_traitor_in s c) (generals n) ≤ m
  pub faithful : (g : ℕ) → g < n → is_traitor_in s c g ≡ false →
      IsFaithful n c m (story_order s) (told table.messages) g

-- The error that memory ran out.
abbrev pub no_memory : RefutationError
no_memory = Table Memory

-- Returns why there is no story for a table, or None if there is one. Either its first line has a fault, or there are
-- more than 3m generals, who tolerate m traitors.
abbrev pub refusal_of_table : Result MessageTable TableError → Option RefutationError
refusal_of_table (Err error) = Some (Table error)
refusal_of_table (Ok t) = if nat_lt (3 * t.bound) t.generals then Some Enough else None

-- Returns why there is no story for the numbers of a table's first line, or None if there is one.
abbrev pub refusal_in : Option (ℕ × ℕ × ℕ × Rule) → Option RefutationError
refusal_in head = refusal_of_table (opened head)

-- Returns why there is no story for n generals, the bound m and the commander c, or None if there is one.
abbrev pub refusal_of : ℕ → ℕ → ℕ → Option RefutationError
refusal_of n m c = refusal_in (Some (n, m, c, default_rule))

-- States that a story is the one that is asked for or, if none is, the first that breaks the rule.
abbrev pub IsAsked : Option Story → Rule → ℕ → ℕ → ℕ → Story → Type 0
IsAsked None rule n c m s = IsFirstBroken rule n c m s
IsAsked (Some asked) rule n c m s = s ≡ asked

-- States that three texts are the numbers of a campaign with at most 3m generals, and that `text` is the message
-- table of a story. It is the story that is asked for or, if none is, the first that breaks the rule.
pub record Refutes (n m c : List ℕ) (rule : Rule) (asked : Option Story) (text : List ℕ) : Type 0 where
  pub numbers : ℕ × ℕ × ℕ × Rule
  pub given : numbers_in n m c ≡ Some numbers
  pub few : refusal_in (Some numbers) ≡ None
  pub story : Story
  pub chosen : IsAsked asked rule numbers.0 numbers.2 numbers.1 story
  pub table : IsStoryTable rule numbers.0 numbers.2 numbers.1 story text
