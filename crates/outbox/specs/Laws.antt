-- The orders of an outbox after a program has put some by a call. The statement is the contract of a function of this
-- crate. A place is a label and a receiver of it.
use Rattle.std.specs.Prelude.{ℕ, ◌≡◌, ◌==◌, if◌then◌else◌, List, [], ◌∷◌, Option, Some, None, slice_index_or}
use Rattle.semantics.specs.Relay.{Relay}
use Rattle.semantics.specs.State.{Outbox}
use Rattle.semantics.specs.Outbox.{Place, places, Choice, newer, written}
use Rattle.outbox.specs.Contents.{HasPlaces, order_at}

-- Returns the receiver's place in a row of places, or `None` if he has none.
abbrev pub place_among : ℕ → List Place → Option Place
place_among receiver [] = None
place_among receiver (p ∷ ps) = if p.receiver == receiver then Some p else place_among receiver ps

-- Returns the place of this receiver of the label of this rank, or `None` if there is no such place.
abbrev pub place_of : Relay → ℕ → ℕ → Option Place
place_of relay rank receiver = place_among receiver (slice_index_or (places relay) rank [])

-- Returns the order at a place after a call: the order that the call puts there, otherwise the earlier one.
abbrev pub order_after : Choice → Option Place → Option ℕ → Option ℕ
order_after choice None before = None
order_after choice (Some place) before = newer (choice place) before

-- States that each place for which a call puts an order then has this order, and that all other places keep theirs. It
-- holds whichever places the call chooses.
pub record LastOrdersAreGiven : Type 0 where
  pub gives : (relay : Relay) (choice : Choice) (outbox : Outbox) (rank receiver : ℕ) → HasPlaces relay outbox →
      order_at relay (written relay choice outbox) rank receiver
      ≡ order_after choice (place_of relay rank receiver) (order_at relay outbox rank receiver)
  pub stays : (relay : Relay) (choice : Choice) (outbox : Outbox) → HasPlaces relay outbox →
      HasPlaces relay (written relay choice outbox)
