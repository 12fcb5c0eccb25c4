-- The order at a place after a call has put orders.
use Rattle.std.proofs.Common.{ℕ, zero, suc, ◌+◌, ◌≡◌, true, false, List, [], ◌∷◌, map, length, get_or, refl, ap, ◌∙◌, Option, Some}
use Rattle.std.specs.Prelude.{◌==◌, if◌then◌else◌, zip}
use Rattle.label.specs.declared.shape.Shape.{Shape}
use Rattle.label.specs.Relay.{receivers}
use Rattle.semantics.specs.Relay.{Relay}
use Rattle.semantics.specs.State.{Outbox}
use Rattle.semantics.specs.Outbox.{Place, places, Choice, newer, written}
use Rattle.semantics.proofs.PlacesLaws.{row_from, rows_from}
use Rattle.outbox.specs.Rows.{RowOrders, receivers_in, orders_in}
use Rattle.outbox.specs.Contents.{order_among, order_at, HasPlaces}
use Rattle.outbox.specs.Laws.{place_among, place_of, order_after}
use Rattle.outbox.proofs.Writing.{row_written}
use Rattle.outbox.proofs.Whole.{Stand, stand_parts}

abbrev rows_after : Choice → List (List Place) → Outbox → Outbox
rows_after choice ps os = map (λ row. row_written choice row.0 row.1) (zip ps os)

-- Each row after the call is the row before it with the call's orders put.
row_after : (choice : Choice) (ps : List (List Place)) (os : Outbox) (i : ℕ) → map length os ≡ map length ps → get_or (rows_after choice ps os) i [] ≡ row_written choice (get_or ps i []) (get_or os i [])
row_after choice [] os i e = refl
row_after choice (p ∷ ps) [] i e = cc
row_after choice (p ∷ ps) (o ∷ os) zero e = refl
row_after choice (p ∷ ps) (o ∷ os) (suc i) e = row_after choice ps os i (cc)

row_long : (ps : List (List Place)) (os : Outbox) (i : ℕ) → map length os ≡ map length ps → length (get_or os i []) ≡ length (get_or ps i [])
row_long [] [] i e = refl
row_long [] (o ∷ os) i e = cc
row_long (p ∷ ps) [] i e = cc
row_long (p ∷ ps) (o ∷ os) zero e = cc
row_long (p ∷ ps) (o ∷ os) (suc i) e = row_long ps os i (cc)

one_after : (choice : Choice) (r : ℕ) (ps : List Place) (os : List (Option ℕ)) → length os ≡ length ps → order_among r ps (row_written choice ps os) ≡ order_after choice (place_among r ps) (order_among r ps os)
one_after choice r [] os e = refl
one_after choice r (p ∷ ps) [] e = cc
one_after choice r (p ∷ ps) (o ∷ os) e =
    elim (p.receiver == r) as (λ t. (if t then newer (choice p) o else order_among r ps (row_written choice ps os)) ≡ order_after choice (if t then Some p else place_among r ps) (if t then o else order_among r ps os)) [
      | true ↦ refl
      | false ↦ one_after choice r ps os (cc)
    ]

pub gives : (relay : Relay) (choice : Choice) (outbox : Outbox) (label receiver : ℕ) → HasPlaces relay outbox →
    order_at relay (written relay choice outbox) label receiver ≡ order_after choice (place_of relay label receiver) (order_at relay outbox label receiver)
gives relay choice outbox label receiver e =
    ap (order_among receiver (get_or (places relay) label [])) (row_after choice (places relay) outbox label e)
    ∙ one_after choice receiver (get_or (places relay) label []) (get_or outbox label []) (row_long (places relay) outbox label e)

-- A call does not change the lengths of rows.
long_after : (choice : Choice) (ps : List Place) (os : List (Option ℕ)) → length os ≡ length ps → length (row_written choice ps os) ≡ length ps
long_after choice [] os e = refl
long_after choice (p ∷ ps) [] e = cc
long_after choice (p ∷ ps) (o ∷ os) e = ap suc (long_after choice ps os (cc))

stay : (choice : Choice) (ps : List (List Place)) (os : Outbox) → map length os ≡ map length ps → map length (rows_after choice ps os) ≡ map length ps
stay choice [] os e = refl
stay choice (p ∷ ps) [] e = cc
stay choice (p ∷ ps) (o ∷ os) e =
    let here : length (row_written choice p o) ≡ length p = long_after choice p o (cc) in
    let rest : map length (rows_after choice ps os) ≡ map length ps = stay choice ps os (cc) in
    rw (here, rest) refl

pub stays : (relay : Relay) (choice : Choice) (outbox : Outbox) → HasPlaces relay outbox → HasPlaces relay (written relay choice outbox)
stays relay choice outbox e = stay choice (places relay) outbox e

-- A row has as many orders as places.
names_long : (k b : ℕ) (row : RowOrders) → length (orders_in row) ≡ length (row_from k b (receivers_in row))
names_long k b [] = refl
names_long k b (p ∷ row) = ap suc (names_long k (b + 1) row)

pub has_places : (s : Shape) (a : ℕ) (rows : List RowOrders) (ws : List (List ℕ)) → Stand s rows ws → map length (map orders_in rows) ≡ map length (rows_from s a ws)
has_places s a [] [] e = refl
has_places s a [] (w ∷ ws) e = cc
has_places s a (row ∷ rows) [] e = cc
has_places s a (row ∷ rows) (w ∷ ws) e =
    let parts = stand_parts s row rows w ws e in
    let here : length (orders_in row) ≡ length (row_from a 0 (receivers s w)) = names_long a 0 row ∙ ap (λ (ns : List ℕ). length (row_from a 0 ns)) parts.0 in
    let rest : map length (map orders_in rows) ≡ map length (rows_from s (a + 1) ws) = has_places s (a + 1) rows ws parts.1 in
    rw (here, rest) refl
