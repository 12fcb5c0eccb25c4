-- One label's row, as contracts see it.
use Rattle.std.proofs.Common.{ℕ, zero, suc, ◌+◌, ◌-◌, ◌<◌, ◌≤◌, ◌≡◌, Bool, true, false, cond, List, [], ◌∷◌, ◌++◌, map, length, get_or, set, refl, sym, ap, ◌∙◌, arith, Some, None, min, subst}
use Rattle.std.specs.Prelude.{◌==◌, ◌&&◌, if◌then◌else◌, slice_get, IsTrue}
use Rattle.std.proofs.lemmas.Bool.{ne_eqb, eq-eqb, false≢true}
use Rattle.std.proofs.lemmas.List.{length-map}
use Rattle.label.specs.declared.shape.Shape.{Shape}
use Rattle.label.specs.Labels.{on, is_distinct}
use Rattle.semantics.specs.Relay.{Relay, relayed}
use Rattle.semantics.specs.declared.entry.Entry.{Entry}
use Rattle.semantics.specs.Outbox.{Choice, written, places_set, at_place, along_row}
use Rattle.semantics.proofs.PlacesLaws.{row_from, sets}
use Rattle.outbox.specs.Rows.{RowOrders, receivers_in, orders_in, put_in_row, filled}
use Rattle.outbox.specs.Contents.{Contents, contents_of, IsOutbox}
use Rattle.outbox.proofs.Writing.{row_written, row_one_written, row_along_written, sets_one, sets_along}
use Rattle.outbox.proofs.Whole.{Stand, stand_parts}
use Rattle.outbox.proofs.One.{OnlyAt, kept_written, kept_unset, one_written, one_set, set_stands}
use Rattle.label.proofs.Counting.{others-distinct}

-- The element at an index within a list does not depend on the default.
pub same_default : {A : Type 0} (xs : List A) (i : ℕ) (d e : A) → i < length xs → get_or xs i d ≡ get_or xs i e
same_default [] i d e l = absurd (omega arith)
same_default (x ∷ xs) zero d e l = refl
same_default (x ∷ xs) (suc i) d e l = same_default xs i d e (omega arith)

stand_distinct : (s : Shape) (i : ℕ) (rows : List RowOrders) (ws : List (List ℕ)) (d : RowOrders) → Stand s rows ws → i < length rows → is_distinct (receivers_in (get_or rows i d)) ≡ true
stand_distinct s i [] ws d e l = absurd (omega arith)
stand_distinct s i (row ∷ rows) [] d e l = cc
stand_distinct s zero (row ∷ rows) (w ∷ ws) d e l = rw (stand_parts s row rows w ws e).0 (others-distinct s.generals (w ++ s.general ∷ []))
stand_distinct s (suc i) (row ∷ rows) (w ∷ ws) d e l = stand_distinct s i rows ws d (stand_parts s row rows w ws e).1 (omega arith)

-- If there is no such label, nothing is written.
pub absent_written : (choice : Choice) (now : Contents) (relay : Relay) (entries : List Entry) (rows : List RowOrders) (label : ℕ) → OnlyAt choice label → contents_of relay entries rows ≡ now → IsOutbox relay rows → length rows ≤ label → now.rows ≡ written now.relay choice now.rows
absent_written choice now relay entries rows label only seen a l =
    subst (λ (k : Contents). k.rows ≡ written k.relay choice k.rows) seen (sym (kept_written choice relay.shape label only 0 rows (relayed relay) a.names (λ k m h. λ q. omega arith)))

pub absent_count : (choice : Choice) (now : Contents) (relay : Relay) (entries : List Entry) (rows : List RowOrders) (label : ℕ) → OnlyAt choice label → contents_of relay entries rows ≡ now → IsOutbox relay rows → length rows ≤ label → places_set now.relay choice ≡ 0
absent_count choice now relay entries rows label only seen a l =
    subst (λ (k : Contents). places_set k.relay choice ≡ 0) seen (kept_unset choice relay.shape label only 0 rows (relayed relay) a.names (λ k m h. λ q. omega arith))

-- The row of the label is written.
pub single_written : (choice : Choice) (now : Contents) (relay : Relay) (entries : List Entry) (rows : List RowOrders) (label : ℕ) (row new : RowOrders) → OnlyAt choice label → contents_of relay entries rows ≡ now → IsOutbox relay rows → label < length rows → row ≡ get_or rows label row
    → row_written choice (row_from label 0 (receivers_in row)) (orders_in row) ≡ orders_in new → map orders_in (set rows label new) ≡ written now.relay choice now.rows
single_written choice now relay entries rows label row new only seen a l at here =
    let was : row ≡ get_or rows label [] = at ∙ same_default rows label row [] l in
    let here' : row_written choice (row_from label 0 (receivers_in (get_or rows label []))) (orders_in (get_or rows label [])) ≡ orders_in new = subst (λ (x : RowOrders). row_written choice (row_from label 0 (receivers_in x)) (orders_in x) ≡ orders_in new) was here in
    subst (λ (k : Contents). map orders_in (set rows label new) ≡ written k.relay choice k.rows) seen (sym (one_written choice relay.shape label only 0 label rows (relayed relay) new a.names (omega arith) l here'))

pub single_count : (choice : Choice) (now : Contents) (relay : Relay) (entries : List Entry) (rows : List RowOrders) (label : ℕ) (row : RowOrders) → OnlyAt choice label → contents_of relay entries rows ≡ now → IsOutbox relay rows → label < length rows → row ≡ get_or rows label row
    → places_set now.relay choice ≡ sets choice (row_from label 0 (receivers_in row))
single_count choice now relay entries rows label row only seen a l at =
    let was : row ≡ get_or rows label [] = at ∙ same_default rows label row [] l in
    subst (λ (k : Contents). places_set k.relay choice ≡ sets choice (row_from label 0 (receivers_in row))) seen
    (one_set choice relay.shape label only 0 label rows (relayed relay) a.names (omega arith) l ∙ ap (λ (x : RowOrders). sets choice (row_from label 0 (receivers_in x))) (sym was))

pub single_stands : (relay : Relay) (rows : List RowOrders) (label : ℕ) (row new : RowOrders) → IsOutbox relay rows → label < length rows → row ≡ get_or rows label row → receivers_in new ≡ receivers_in row → IsOutbox relay (set rows label new)
single_stands relay rows label row new a l at same =
    record { within = a.within; names = set_stands relay.shape label rows (relayed relay) new a.names (λ h. same ∙ ap receivers_in (at ∙ same_default rows label row [] l)) }

-- A call that puts one order does so at one label only.
pub only_place : (label r v : ℕ) → OnlyAt (at_place label r v) label
only_place label r v k b n ne = ap (λ t. if t && (n == r) then Some v else None) (ne_eqb k label ne)

at_label : (label r v b n : ℕ) → at_place label r v (record { rank = label; number = b; receiver = n }) ≡ (if n == r then Some v else None)
at_label label r v b n = ap (λ t. if t && (n == r) then Some v else None) (eq-eqb label label refl)

pub place_written : (now : Contents) (relay : Relay) (entries : List Entry) (rows : List RowOrders) (label r v : ℕ) (row new : RowOrders) → contents_of relay entries rows ≡ now → IsOutbox relay rows → label < length rows → row ≡ get_or rows label row → new ≡ put_in_row r v row → map orders_in (set rows label new) ≡ written now.relay (at_place label r v) now.rows
place_written now relay entries rows label r v row new seen a l at is =
    single_written (at_place label r v) now relay entries rows label row new (only_place label r v) seen a l at (row_one_written (at_place label r v) r v label (at_label label r v) 0 row ∙ ap orders_in (sym is))

there_iff : (b : Bool) (n : ℕ) → n ≡ cond {A = ℕ} b 1 0 → (IsTrue b → 0 < n) × (0 < n → IsTrue b)
there_iff true n e = (λ h. omega arith, λ h. refl)
there_iff false n e = (λ h. absurd (false≢true h), λ h. absurd (omega arith))

pub place_there : (now : Contents) (relay : Relay) (entries : List Entry) (rows : List RowOrders) (label r v : ℕ) (row : RowOrders) (there : Bool) → contents_of relay entries rows ≡ now → IsOutbox relay rows → label < length rows → row ≡ get_or rows label row → there ≡ on (receivers_in row) r
    → (IsTrue there → 0 < places_set now.relay (at_place label r v)) × (0 < places_set now.relay (at_place label r v) → IsTrue there)
place_there now relay entries rows label r v row there seen a l at is =
    let distinct : is_distinct (receivers_in row) ≡ true = rw at (stand_distinct relay.shape label rows (relayed relay) row a.names l) in
    there_iff there (places_set now.relay (at_place label r v))
    (single_count (at_place label r v) now relay entries rows label row (only_place label r v) seen a l at
    ∙ (sets_one (at_place label r v) r v label (at_label label r v) 0 (receivers_in row) distinct ∙ ap (λ b. cond {A = ℕ} b 1 0) (sym is)))

pub place_absent : (now : Contents) (relay : Relay) (entries : List Entry) (rows : List RowOrders) (label r v : ℕ) → contents_of relay entries rows ≡ now → IsOutbox relay rows → length rows ≤ label
    → (IsTrue false → 0 < places_set now.relay (at_place label r v)) × (0 < places_set now.relay (at_place label r v) → IsTrue false)
place_absent now relay entries rows label r v seen a l = there_iff false (places_set now.relay (at_place label r v)) (absent_count (at_place label r v) now relay entries rows label (only_place label r v) seen a l)

-- A call that puts orders along a row does so at one label only.
pub only_row : (label : ℕ) (orders : List ℕ) → OnlyAt (along_row label orders) label
only_row label orders k b n ne = ap (λ t. if t then slice_get orders b else None) (ne_eqb k label ne)

along_label : (label : ℕ) (orders : List ℕ) (b n : ℕ) → along_row label orders (record { rank = label; number = b; receiver = n }) ≡ slice_get orders b
along_label label orders b n = ap (λ t. if t then slice_get orders b else None) (eq-eqb label label refl)

pub filled_names : (vs : List ℕ) (row : RowOrders) → receivers_in (filled vs row) ≡ receivers_in row
filled_names [] row = refl
filled_names (v ∷ vs) [] = refl
filled_names (v ∷ vs) (p ∷ row) = ap (λ xs. p.0 ∷ xs) (filled_names vs row)

pub along_written : (now : Contents) (relay : Relay) (entries : List Entry) (rows : List RowOrders) (label : ℕ) (orders : List ℕ) (row new : RowOrders) → contents_of relay entries rows ≡ now → IsOutbox relay rows → label < length rows → row ≡ get_or rows label row → new ≡ filled orders row → map orders_in (set rows label new) ≡ written now.relay (along_row label orders) now.rows
along_written now relay entries rows label orders row new seen a l at is =
    single_written (along_row label orders) now relay entries rows label row new (only_row label orders) seen a l at
    (row_along_written (along_row label orders) label orders (along_label label orders) 0 orders (λ j. let e : 0 + j ≡ j = omega arith in ap (slice_get orders) e) row ∙ ap orders_in (sym is))

pub along_count : (now : Contents) (relay : Relay) (entries : List Entry) (rows : List RowOrders) (label : ℕ) (orders : List ℕ) (row : RowOrders) (count : ℕ) → contents_of relay entries rows ≡ now → IsOutbox relay rows → label < length rows → row ≡ get_or rows label row → count ≡ min (length row) (length orders) → count ≡ places_set now.relay (along_row label orders)
along_count now relay entries rows label orders row count seen a l at is =
    let all : places_set now.relay (along_row label orders) ≡ sets (along_row label orders) (row_from label 0 (receivers_in row)) = single_count (along_row label orders) now relay entries rows label row (only_row label orders) seen a l at in
    let here : sets (along_row label orders) (row_from label 0 (receivers_in row)) ≡ min (length (receivers_in row)) (length orders - 0) = sets_along (along_row label orders) label orders (along_label label orders) 0 (receivers_in row) in
    let size : length (receivers_in row) ≡ length row = length-map row (λ p. p.0) in
    omega arith
