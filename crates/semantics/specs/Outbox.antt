-- Defines the outbox, and which of its orders each helper sets (own).
use Rattle.std.specs.Prelude.{ℕ, ◌+◌, ◌*◌, ◌≤◌, ◌==◌, ◌&&◌, if◌then◌else◌, List, length, map, zip, sum_by, count_by, Option, Some, None, is_some, slice_get, slice_range}
use Rattle.std.specs.List.{enumerate_from}
use Rattle.word.specs.Bytes.{little_number}
use Rattle.semantics.specs.Limits.{most_generals, most_labels}
use Rattle.semantics.specs.Relay.{IsRelay, Relay, relayed}
use Rattle.label.specs.Relay.{receivers}
use Rattle.semantics.specs.State.{Outbox}

-- A place in an outbox, for one order: the rank of the label, the position of the receiver among the label's receivers,
-- and the receiver.
pub record Place : Type 0 where
  pub rank : ℕ
  pub number : ℕ
  pub receiver : ℕ

-- Returns the places of an outbox in rows. There is a row for each label that the general relays, with its receivers in
-- ascending order. With signatures there are no rows.
abbrev pub places : Relay → List (List Place)
places r =
    map (λ label. map (λ p. record {
      rank = label.0;
      number = p.0;
      receiver = p.1;
    }) (enumerate_from 0 (receivers r.shape label.1)))
    (enumerate_from 0 (relayed r))

-- Returns the outbox in which no order is set.
abbrev pub empty_outbox : Relay → Outbox
empty_outbox r = map (λ row. map (λ place. None) row) (places r)

-- The order that a helper sets at each place, or nothing.
abbrev pub Choice : Type 0
Choice = Place → Option ℕ

-- Returns the later order if there is one, otherwise the earlier one.
abbrev pub newer : Option ℕ → Option ℕ → Option ℕ
newer (Some order) old = Some order
newer None old = old

-- Returns the outbox after a helper has set its orders. They replace earlier ones.
abbrev pub written : Relay → Choice → Outbox → Outbox
written r choice outbox =
    map (λ row. map (λ p. newer (choice p.0) p.1) (zip row.0 row.1)) (zip (places r) outbox)

-- Returns the number of orders that a helper sets.
abbrev pub places_set : Relay → Choice → ℕ
places_set r choice = sum_by (λ row. count_by (λ place. is_some (choice place)) row) (places r)

-- Returns which orders send sets: only the one of the label with this rank to this receiver.
abbrev pub at_place : ℕ → ℕ → ℕ → Choice
at_place rank receiver order place = if (place.rank == rank) && (place.receiver == receiver) then Some order else None

-- Returns which orders send_row sets: those of the label with this rank to its first receivers, ascending.
abbrev pub along_row : ℕ → List ℕ → Choice
along_row rank orders place = if place.rank == rank then slice_get orders place.number else None

-- Returns which orders sway sets: those of all labels to this receiver, all to `order`.
abbrev pub at_receiver : ℕ → ℕ → Choice
at_receiver receiver order place = if place.receiver == receiver then Some order else None

-- Returns the order that the general took for the label with this rank. The context begins with eight numbers of 4
-- bytes, and then has one for each rank.
abbrev pub taken_value : List ℕ → ℕ → ℕ
taken_value context rank = little_number (slice_range context (32 + 4 * rank) (36 + 4 * rank))

-- Returns which orders honest sets: those of all labels to this receiver, each to the order that the general took for
-- the label.
abbrev pub as_taken : List ℕ → ℕ → Choice
as_taken context receiver place = if place.receiver == receiver then Some (taken_value context place.rank) else None

-- ---- Bounds of the number of orders set. For each statement, a function of this crate has it as its contract.

-- States that within the limits of a campaign, a general relays at most 11 * 10 * 9 labels in a round.
abbrev pub RelaysAreFew : Type 0
RelaysAreFew = (relay : Relay) → IsRelay relay → length (relayed relay) ≤ 990

-- States that send sets at most one order, send_row at most one for each order that it reads, and sway and honest at
-- most one for each label that the general relays.
pub record FewPlacesAreSet : Type 0 where
  pub sent : (relay : Relay) (label receiver order : ℕ) → places_set relay (at_place label receiver order) ≤ 1
  pub along : (relay : Relay) (label : ℕ) (orders : List ℕ) → places_set relay (along_row label orders) ≤ length orders
  pub swayed : (relay : Relay) (receiver order : ℕ) →
      places_set relay (at_receiver receiver order) ≤ length (relayed relay)
  pub taken : (relay : Relay) (context : List ℕ) (receiver : ℕ) →
      places_set relay (as_taken context receiver) ≤ length (relayed relay)

-- States that send_row returns at most 13, and sway and honest at most 1,016.
pub record RangesAreKept : Type 0 where
  pub along : (relay : Relay) (label : ℕ) (orders : List ℕ) → length orders ≤ most_generals →
      places_set relay (along_row label orders) ≤ most_generals
  pub swayed : (relay : Relay) (receiver order : ℕ) → IsRelay relay →
      places_set relay (at_receiver receiver order) ≤ most_labels
  pub taken : (relay : Relay) (context : List ℕ) (receiver : ℕ) → IsRelay relay →
      places_set relay (as_taken context receiver) ≤ most_labels
