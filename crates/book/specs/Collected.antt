-- The message table with all messages of a message function, in the order in which a table is written.
use Rattle.std.specs.Prelude.{ℕ, List, [], ◌∷◌, Option, None, Some}
use Rattle.combine.specs.declared.campaign_rule.Rule.{Rule}
use Rattle.label.specs.Oral.{Messages}
use Rattle.book.specs.declared.message.Message.{Message}
use Rattle.book.specs.Places.{Place, places}
use Rattle.book.specs.Table.{MessageTable}

-- Returns the message with order `v` for the label and the receiver of the place `z`.
abbrev pub message : Place → ℕ → Message
message z v = record { label = z.0; receiver = z.1; order = v }

-- Prepends the message of the place `z` to `ms`, if an order was received there.
abbrev pub told_more : Place → Option ℕ → List Message → List Message
told_more z None ms = ms
told_more z (Some v) ms = message z v ∷ ms

-- Returns the messages that `M` has at these places, in order. A place is a label and a receiver.
abbrev pub messages_at : Messages → List Place → List Message
messages_at M [] = []
messages_at M (z ∷ zs) = told_more z (M z.0 z.1) (messages_at M zs)

-- Returns the table of all messages that `M` has, in a campaign with these numbers and this rule.
abbrev pub collected : Messages → ℕ → ℕ → ℕ → Rule → MessageTable
collected M n m c rule =
    record { generals = n; bound = m; commander = c; rule = rule; messages = messages_at M (places n m c) }
