-- The kind of signed campaigns: what distinguishes them from oral ones (own; TOPLAS 1982, section 4, algorithm SM(m)).
use Rattle.std.specs.Prelude.{ℕ, suc, List, [], map, length}
use Rattle.semantics.specs.Relay.{Relay, signed}
use Rattle.round.specs.Scenario.{Scenario, shape_of}
use Rattle.round.specs.Letters.{Letter}
use Rattle.round.specs.Contexts.{context_bytes}
use Rattle.world.specs.declared.event.Event.{Event}
use Rattle.world.specs.Kind.{Kind, World, opening, run}
use Rattle.signed.specs.Chains.{Chain}
use Rattle.signed.specs.Accepted.{accepted}
use Rattle.signed.specs.Contexts.{signed_context_numbers, signer_bits}
use Rattle.signed.specs.Entries.{Entry}
use Rattle.signed.specs.Loyal.{loyal_entries}
use Rattle.signed.specs.Sent.{Sent, delivered, held_behind, sent_in}

-- Returns the chains that general `g` has received in these closed rounds.
abbrev pub held_in : Scenario → List (List Letter) → ℕ → List Chain
held_in s closed g = held_behind s.generals (sent_in s closed) g

-- Returns the context of general `g` in the round after these closed rounds.
abbrev pub signed_context : Scenario → List (List Letter) → ℕ → List ℕ
signed_context s closed g =
    context_bytes (signed_context_numbers s.generals s.bound s.commander g (suc (length closed)) (held_in s closed g))

-- Returns the relay of general `g` in the round after these closed rounds. It contains the signers of each chain that
-- he holds.
abbrev pub signed_relay : Scenario → List (List Letter) → ℕ → Relay
signed_relay s closed g = signed (shape_of s g (suc (length closed))) (map signer_bits (held_in s closed g))

-- Returns the entries that general `g` makes in the round after these closed rounds if he is loyal.
abbrev pub signed_entries : Scenario → List (List Letter) → ℕ → List Entry
signed_entries s closed g =
    loyal_entries s.generals s.commander s.bound s.order (delivered (sent_in s closed)) (suc (length closed)) g

-- The kind of signed campaigns. Outboxes have entries instead of rows of orders.
abbrev pub signed_kind : Kind
signed_kind =
    record { context = signed_context; relay = signed_relay; rows = λ s closed g. []; entries = signed_entries }

-- Returns the world of the scenario's signed campaign after these events.
abbrev pub played : Scenario → List Event → World
played s events = run signed_kind (opening signed_kind s) events

-- Returns the chains that were sent in the rounds that are closed after these events.
abbrev pub sent_after : Scenario → List Event → Sent
sent_after s events = sent_in s (played s events).closed

-- Returns the orders that general `p` accepts from the chains of these rounds.
abbrev pub accepted_in : Scenario → List (List Letter) → ℕ → List ℕ
accepted_in s closed p = accepted s.generals (delivered (sent_in s closed)) (suc s.bound) p
