-- The order at a place, and the empty outbox.
use Rattle.std.proofs.Common.{Some, Bool, true, ◌||◌, inl, inr, set, get_or-set_same, length-set, ℕ, zero, suc, ◌+◌, ◌<◌, ◌≤◌, ◌≡◌, List, [], ◌∷◌, map, length, get_or, refl, sym, ap, ◌∙◌, arith, None, Option, subst}
use Rattle.std.specs.Prelude.{◌==◌, if◌then◌else◌}
use Rattle.std.proofs.lemmas.List.{length-map, get_or_past}
use Rattle.std.proofs.lemmas.Bool.{false≢true}
use Rattle.std.proofs.lemmas.Bool.Decides.{eqb_tells}
use Rattle.label.specs.Labels.{on}
use Rattle.label.specs.declared.shape.Shape.{Shape}
use Rattle.label.specs.Relay.{receivers}
use Rattle.semantics.specs.Relay.{Relay, relayed}
use Rattle.semantics.specs.declared.entry.Entry.{Entry}
use Rattle.semantics.specs.Outbox.{Place, places}
use Rattle.semantics.proofs.PlacesLaws.{row_from, rows_from}
use Rattle.outbox.specs.Rows.{RowOrders, receivers_in, orders_in, empty_row, row_for, order_in, put_in_row}
use Rattle.outbox.specs.Contents.{Contents, contents_of, IsOutbox, order_among, order_at}
use Rattle.outbox.proofs.Whole.{Stand, stand_parts, put_names}
use Rattle.outbox.proofs.Single.{same_default, single_stands}

none_among : (r : ℕ) (ps : List Place) → order_among r ps [] ≡ None
none_among r [] = refl
none_among r (p ∷ ps) = refl

pub get_orders : (rows : List RowOrders) (i : ℕ) → get_or (map orders_in rows) i [] ≡ orders_in (get_or rows i [])
get_orders [] i = refl
get_orders (row ∷ rows) zero = refl
get_orders (row ∷ rows) (suc i) = get_orders rows i

get_places : (s : Shape) (a i : ℕ) (rows : List RowOrders) (ws : List (List ℕ)) → Stand s rows ws → i < length rows → get_or (rows_from s a ws) i [] ≡ row_from (a + i) 0 (receivers_in (get_or rows i []))
get_places s a i [] ws e l = absurd (omega arith)
get_places s a i (row ∷ rows) [] e l = cc
get_places s a zero (row ∷ rows) (w ∷ ws) e l =
    let k : a ≡ a + 0 = omega arith in
    ap (λ m. row_from m 0 (receivers s w)) k ∙ ap (row_from (a + 0) 0) (sym (stand_parts s row rows w ws e).0)
get_places s a (suc i) (row ∷ rows) (w ∷ ws) e l =
    let k : a + 1 + i ≡ a + suc i = omega arith in
    get_places s (a + 1) i rows ws (stand_parts s row rows w ws e).1 (omega arith) ∙ ap (λ m. row_from m 0 (receivers_in (get_or rows i []))) k

row_order : (r k b : ℕ) (row : RowOrders) → order_among r (row_from k b (receivers_in row)) (orders_in row) ≡ order_in r row
row_order r k b [] = refl
row_order r k b (p ∷ row) = ap (λ o. if p.0 == r then p.1 else o) (row_order r k (b + 1) row)

pub order_past : (now : Contents) (relay : Relay) (entries : List Entry) (rows : List RowOrders) (label r : ℕ) → contents_of relay entries rows ≡ now → length rows ≤ label → None ≡ order_at now.relay now.rows label r
order_past now relay entries rows label r seen l =
    let size : length (map orders_in rows) ≡ length rows = length-map rows orders_in in
    subst (λ (k : Contents). None ≡ order_at k.relay k.rows label r) seen
    (sym (ap (order_among r (get_or (places relay) label [])) (get_or_past (map orders_in rows) label [] (omega arith)) ∙ none_among r (get_or (places relay) label [])))

pub order_found : (now : Contents) (relay : Relay) (entries : List Entry) (rows : List RowOrders) (label r : ℕ) (row : RowOrders) (o : Option ℕ) → contents_of relay entries rows ≡ now → IsOutbox relay rows → label < length rows → row ≡ get_or rows label row → o ≡ order_in r row → o ≡ order_at now.relay now.rows label r
order_found now relay entries rows label r row o seen a l at is =
    let was : row ≡ get_or rows label [] = at ∙ same_default rows label row [] l in
    subst (λ (k : Contents). o ≡ order_at k.relay k.rows label r) seen
    (is ∙ (ap (order_in r) was ∙ (sym (row_order r (0 + label) 0 (get_or rows label []))
    ∙ (ap (λ ps. order_among r ps (orders_in (get_or rows label []))) (sym (get_places relay.shape 0 label rows (relayed relay) a.names l))
    ∙ ap (order_among r (get_or (places relay) label [])) (sym (get_orders rows label))))))

-- An order that was put for a receiver is then found.
put_found : (r v : ℕ) (row : RowOrders) → on (receivers_in row) r ≡ true → Some v ≡ order_in r (put_in_row r v row)
put_found r v [] h = absurd (false≢true h)
put_found r v (p ∷ row) h =
    elim (eqb_tells p.0 r) [
      | inl same ↦ rw same.0 refl
      | inr apart ↦ rw apart.0 (put_found r v row (sym (ap (λ t. t || on (receivers_in row) r) apart.0) ∙ h))
    ]

pub found_after : (relay : Relay) (rows : List RowOrders) (label r v : ℕ) (row new : RowOrders) (there : Bool) → IsOutbox relay rows → label < length rows → row ≡ get_or rows label row → new ≡ put_in_row r v row → there ≡ on (receivers_in row) r → there ≡ true
    → order_at relay (map orders_in (set rows label new)) label r ≡ Some v
found_after relay rows label r v row new there a l at is t yes_there =
    let stands : IsOutbox relay (set rows label new) = single_stands relay rows label row new a l at (ap receivers_in is ∙ put_names r v row) in
    let inside : label < length (set rows label new) = rw (length-set rows label new) l in
    sym (order_found (contents_of relay [] (set rows label new)) relay [] (set rows label new) label r new (Some v) refl stands inside (sym (get_or-set_same rows label new new l)) (put_found r v row (sym t ∙ yes_there) ∙ ap (order_in r) (sym is)))

-- In an empty row no order is put.
empty_names_in : (ns : List ℕ) → receivers_in (empty_row ns) ≡ ns
empty_names_in [] = refl
empty_names_in (n ∷ ns) = ap (λ xs. n ∷ xs) (empty_names_in ns)

pub empty_names : (s : Shape) (ws : List (List ℕ)) → map receivers_in (map (row_for s) ws) ≡ map (receivers s) ws
empty_names s [] = refl
empty_names s (w ∷ ws) = rw (empty_names_in (receivers s w), empty_names s ws) refl

empty_orders : (k b : ℕ) (ns : List ℕ) → orders_in (empty_row ns) ≡ map (λ place. None) (row_from k b ns)
empty_orders k b [] = refl
empty_orders k b (n ∷ ns) = ap (λ os. None ∷ os) (empty_orders k (b + 1) ns)

pub empty_rows : (s : Shape) (a : ℕ) (ws : List (List ℕ)) → map orders_in (map (row_for s) ws) ≡ map (λ row. map (λ place. None) row) (rows_from s a ws)
empty_rows s a [] = refl
empty_rows s a (w ∷ ws) = rw (empty_orders a 0 (receivers s w), empty_rows s (a + 1) ws) refl
