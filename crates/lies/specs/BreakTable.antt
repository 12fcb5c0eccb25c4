-- The message table of a shortest break under the commanders asked about.
use Rattle.std.specs.Prelude.{ℕ, ◌<◌, ◌≤◌, ◌≡◌, false, List, count_by, Ok, Option}
use Rattle.combine.specs.declared.campaign_rule.Rule.{Rule}
use Rattle.combine.specs.Rule.{combined_by}
use Rattle.label.specs.Labels.{on, generals}
use Rattle.label.specs.Oral.{IsFaithful, Agree}
use Rattle.book.specs.Decisions.{decision_of}
use Rattle.book.specs.Grammar.{table_told}
use Rattle.book.specs.Table.{MessageTable, told}
use Rattle.lies.specs.Asked.{IsAsked}
use Rattle.lies.specs.Break.{HasNumbers, IsShortest}

-- States that a text is the message table of a shortest break by at most `most` traitors under the commander c: it is
-- read as a table with these numbers and this rule, all generals but the traitors are faithful in it, and its decisions
-- break IC1 or IC2. No break under a commander asked about is shorter, and c is asked about himself.
pub record IsBreakTable (rule : Rule) (n m : ℕ) (given : Option ℕ) (most c : ℕ) (traitors text : List ℕ) : Type 0 where
  pub order : ℕ
  pub table : MessageTable
  pub read : table_told text ≡ Ok table
  pub numbers : HasNumbers n m c rule table
  pub asked : IsAsked n given c
  pub few : count_by (on traitors) (generals n) ≤ most
  pub faithful : (g : ℕ) → g < n → on traitors g ≡ false → IsFaithful n c m order (told table.messages) g
  pub broken : ¬ Agree n c order (on traitors) (decision_of table)
  pub shortest : (d : ℕ) → IsAsked n given d →
      IsShortest (combined_by rule) n m d c (on traitors) (told table.messages)
