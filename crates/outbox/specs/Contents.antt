-- How contracts see an outbox.
use Rattle.std.specs.Prelude.{ℕ, ◌≡◌, ◌==◌, if◌then◌else◌, List, [], ◌∷◌, map, length, Option, None, Some, slice_index_or}
use Rattle.label.specs.declared.shape.Shape.{Shape}
use Rattle.label.specs.Relay.{receivers}
use Rattle.semantics.specs.Relay.{Kind, Oral, Signed, Relay, IsRelay, relayed}
use Rattle.semantics.specs.declared.entry.Entry.{Entry}
use Rattle.semantics.specs.State.{Outbox}
use Rattle.semantics.specs.Outbox.{Place, places}
use Rattle.outbox.specs.Rows.{RowOrders, receivers_in, orders_in}

-- An outbox. `relay` says which labels are relayed to whom, and whether orders are signed. `rows` has for each label,
-- by rank, an order or nothing for each receiver. `entries` are those of a signed campaign.
pub record Contents : Type 0 where
  pub relay : Relay
  pub rows : Outbox
  pub entries : List Entry

-- The contents of an outbox in a signed campaign: the signers of each chain that the general holds, and his entries.
pub record Signing : Type 0 where
  pub held : List ℕ
  pub entries : List Entry

-- Returns whether a relay is oral or signed. It is oral if there are no contents for signed orders, and otherwise
-- signed with the chains held.
abbrev pub kind_of : Option Signing → Kind
kind_of None = Oral
kind_of (Some s) = Signed s.held

-- Returns the entries of an outbox. In an oral campaign there are none.
abbrev pub entries_of : Option Signing → List Entry
entries_of None = []
entries_of (Some s) = s.entries

-- Returns the relay of this shape, oral or signed. The shape is the general, the commander, the number of generals and
-- the round.
abbrev pub relay_of : Shape → Option Signing → Relay
relay_of s signing = record { shape = s; kind = kind_of signing }

-- Returns the outbox with this relay, these entries and these rows.
abbrev pub contents_of : Relay → List Entry → List RowOrders → Contents
contents_of r entries rows = record { relay = r; rows = map orders_in rows; entries = entries }

-- States that the relay's numbers are within their limits, and that each row has the receivers of its label.
pub record IsOutbox (r : Relay) (rows : List RowOrders) : Type 0 where
  pub within : IsRelay r
  pub names : map receivers_in rows ≡ map (receivers r.shape) (relayed r)

-- Returns the order for a receiver in a row, given the row's places and, in the same sequence, its orders.
abbrev pub order_among : ℕ → List Place → List (Option ℕ) → Option ℕ
order_among receiver [] orders = None
order_among receiver (p ∷ ps) [] = None
order_among receiver (p ∷ ps) (o ∷ orders) = if p.receiver == receiver then o else order_among receiver ps orders

-- Returns the order for a receiver of the label of this rank, or `None` if there is no such place or no order.
abbrev pub order_at : Relay → Outbox → ℕ → ℕ → Option ℕ
order_at r outbox rank receiver =
    order_among receiver (slice_index_or (places r) rank []) (slice_index_or outbox rank [])

-- States that each row has as many orders as its label has receivers.
abbrev pub HasPlaces : Relay → Outbox → Type 0
HasPlaces r outbox = map length outbox ≡ map length (places r)
