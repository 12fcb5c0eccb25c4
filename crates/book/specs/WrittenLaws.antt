-- What is true of message tables that are written as text. For each statement, a function of this crate has it as its
-- contract.
use Rattle.std.specs.Prelude.{ℕ, ◌^◌, ◌<◌, ◌≡◌, ◌≢◌, true, List, [], ◌∷◌, None, Some, Ok}
use Rattle.combine.specs.declared.campaign_rule.Rule.{Rule}
use Rattle.combine.specs.declared.campaign_rule.Rule.TheVariants.{Majority}
use Rattle.combine.specs.Rule.{combined_by}
use Rattle.label.specs.Oral.{Messages, om}
use Rattle.book.specs.Decisions.{decision_of}
use Rattle.book.specs.Grammar.{is_place, is_within, table_told}
use Rattle.book.specs.Table.{MessageTable, told}
use Rattle.book.specs.Written.{loyal, table_text, written}

-- States that all orders of the message function have at most 32 bits.
abbrev pub AreOrders : Messages → Type 0
AreOrders M = (w : List ℕ) (p order : ℕ) → M w p ≡ Some order → order < 2 ^ 32

-- States that a table has these numbers and this rule, that it has the messages `M` for all labels and receivers of its
-- campaign, and that its decisions are those of OM(m) from `M`.
pub record IsTableOf (M : Messages) (n m c : ℕ) (by : Rule) (t : MessageTable) : Type 0 where
  pub generals : t.generals ≡ n
  pub bound : t.bound ≡ m
  pub commander : t.commander ≡ c
  pub rule : t.rule ≡ by
  pub told : (w : List ℕ) (p : ℕ) → is_place t w p ≡ true → told t.messages w p ≡ M w p
  pub decides : (p : ℕ) → p < n → p ≢ c → decision_of t p ≡ om (combined_by by) n M m (c ∷ []) p

-- States that a message table that is written as text is read back with the same messages and decisions.
abbrev pub TablesAreRead : Type 0
TablesAreRead = (M : Messages) → AreOrders M → (n m c : ℕ) (rule : Rule) → is_within n m c ≡ true
    → (t : MessageTable) × (table_told (table_text M n m c rule) ≡ Ok t) × IsTableOf M n m c rule t

-- States that if all generals send the same order in a table, each lieutenant decides on it.
abbrev pub LoyalTablesDecide : Type 0
LoyalTablesDecide = (order : ℕ) → order < 2 ^ 32 → (n m c : ℕ) → is_within n m c ≡ true
    → (t : MessageTable) × (table_told (written (loyal order None) n m c Majority) ≡ Ok t)
    × ((p : ℕ) → p < n → p ≢ c → decision_of t p ≡ order)
