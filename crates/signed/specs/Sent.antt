-- The chains that the letters of a signed campaign's closed rounds send (own; TOPLAS 1982, section 4, algorithm SM(m)).
use Rattle.std.specs.Prelude.{ℕ, zero, suc, List, [], ◌∷◌, ◌++◌, map, length, slice_index_or, Option, None, Some}
use Rattle.label.specs.Labels.{generals}
use Rattle.round.specs.Scenario.{Scenario}
use Rattle.round.specs.Letters.{Letter, letter_of}
use Rattle.signed.specs.Chains.{Chain}
use Rattle.signed.specs.Accepted.{Deliveries, held}
use Rattle.signed.specs.Entries.{Dispatch, dispatched, received}

-- The chains that were sent in some rounds, with their receivers: a list for each round and sender, in the order of his
-- entries.
abbrev pub Sent : Type 0
Sent = List (List (List Dispatch))

-- Returns the chains that general `g` sent in a round, counted from 1, with their receivers.
abbrev pub sent_by : Sent → ℕ → ℕ → List Dispatch
sent_by sent zero g = []
sent_by sent (suc r) g = slice_index_or (slice_index_or sent r []) g []

-- Returns the chains that were sent by round, sender and receiver.
abbrev pub delivered : Sent → Deliveries
delivered sent round g p = received p (sent_by sent round g)

-- Returns the chains that general `g` holds in the round after those in `sent`.
unfoldable pub held_behind : ℕ → Sent → ℕ → List Chain
held_behind n sent g = held n (delivered sent) (suc (length sent)) g

-- Returns the chains that a general's letter sends in the round after those in `sent`. Without a letter it is an empty
-- list.
abbrev pub sends : Scenario → Sent → ℕ → Option Letter → List Dispatch
sends s sent g None = []
sends s sent g (Some l) = dispatched s.generals s.commander g (held_behind s.generals sent g) l.outbox.entries

-- Returns the chains that each general sends with these letters in the round after those in `sent`.
abbrev pub round_sent : Scenario → Sent → List Letter → List (List Dispatch)
round_sent s sent row = map (λ g. sends s sent g (letter_of row g)) (generals s.generals)

-- Returns `sent` with the chains appended that are sent with the letters of further rounds.
abbrev pub sent_along : Scenario → Sent → List (List Letter) → Sent
sent_along s sent [] = sent
sent_along s sent (row ∷ rows) = sent_along s (sent ++ round_sent s sent row ∷ []) rows

-- Returns the chains that are sent with the letters of these rounds.
unfoldable pub sent_in : Scenario → List (List Letter) → Sent
sent_in s closed = sent_along s [] closed
