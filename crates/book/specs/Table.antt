-- A message table as a value, and its messages as a function.
use Rattle.std.specs.Prelude.{ℕ, ◌+◌, ◌<◌, ◌≤◌, ◌==◌, ◌&&◌, Bool, List, option_map, find, bytes_eq as same_label}
use Rattle.combine.specs.declared.campaign_rule.Rule.{Rule}
use Rattle.label.specs.Oral.{Messages}
use Rattle.book.specs.declared.message.Message.{Message}

-- States that a campaign's numbers are within their limits: at most 13 generals, a bound of at most 4 that leaves two
-- other generals, and a commander who exists.
pub record AreNumbersWithin (generals bound commander : ℕ) : Type 0 where
  pub few : generals ≤ 13
  pub rounds : bound ≤ 4
  pub relays : bound + 2 ≤ generals
  pub present : commander < generals

-- A message table: the campaign's numbers, the rule by which orders are combined, and the messages.
pub record MessageTable : Type 0 where
  pub generals : ℕ
  pub bound : ℕ
  pub commander : ℕ
  pub rule : Rule
  pub messages : List Message

-- Checks whether the message has this label and receiver.
abbrev pub is_about : List ℕ → ℕ → Message → Bool
is_about w p message = message.receiver == p && same_label message.label w

-- Returns the message function of a list of messages. For a label and a receiver it is the order of the first message
-- with both, if there is one.
unfoldable pub told : List Message → Messages
told messages w p = option_map (λ message. message.order) (find (is_about w p) messages)
