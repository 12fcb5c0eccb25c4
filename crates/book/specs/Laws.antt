-- What is true of every table that is read from a text. A function of this crate has the statement as its contract.
use Rattle.std.specs.Prelude.{ℕ, ◌+◌, ◌^◌, ◌<◌, ◌≤◌, ◌≡◌, false, List, [], ◌∷◌, length, Ok}
use Rattle.std.specs.List.{list_any, AllByRecursion}
use Rattle.label.specs.Labels.{on}
use Rattle.label.specs.Oral.{IsLabel}
use Rattle.book.specs.declared.message.Message.{Message}
use Rattle.book.specs.Table.{MessageTable, AreNumbersWithin, is_about}
use Rattle.book.specs.Grammar.{table_told}

-- States that a message is one of a campaign. Its label is a label of the campaign with at most `m + 1` generals, its
-- receiver is a general who is not on the label, and its order has at most 32 bits.
pub record IsMessage (n m c : ℕ) (message : Message) : Type 0 where
  pub label : IsLabel n c message.label
  pub rounds : length message.label ≤ m + 1
  pub general : message.receiver < n
  pub off : on message.label message.receiver ≡ false
  pub order : message.order < 2 ^ 32

-- States that no two messages of the list have the same label and receiver.
abbrev pub EachOnce : List Message → Type 0
EachOnce [] = Unit {0}
EachOnce (message ∷ later) = (list_any (is_about message.label message.receiver) later ≡ false) × EachOnce later

-- States that a table is well-formed: its numbers are within their limits, its messages are ones of the campaign, and
-- no two have the same label and receiver.
pub record IsWholeTable (t : MessageTable) : Type 0 where
  pub within : AreNumbersWithin t.generals t.bound t.commander
  pub messages : AllByRecursion (IsMessage t.generals t.bound t.commander) t.messages
  pub once : EachOnce t.messages

-- States that every table that is read from a text is well-formed.
abbrev pub ToldTablesAreWhole : Type 0
ToldTablesAreWhole = (text : List ℕ) (t : MessageTable) → table_told text ≡ Ok t → IsWholeTable t
