-- One order is put for all receivers of a row, row by row.
use Rattle.std.proofs.Common.{ℕ, zero, suc, ◌+◌, ◌<◌, ◌≡◌, Bool, true, List, [], ◌∷◌, map, length, get_or, set, replicate, refl, sym, ap, subst, ◌∙◌, arith, Some, None, Option, add-one, add-zero, zero-add, inl, inr}
use Rattle.std.specs.Prelude.{◌==◌, if◌then◌else◌}
use Rattle.std.proofs.lemmas.Bool.{eq-eqb, or_left, or_right, cases_lt}
use Rattle.std.proofs.lemmas.List.{get_or_past, get_or-replicate}
use Rattle.label.specs.declared.shape.Shape.{Shape}
use Rattle.label.specs.Labels.{on}
use Rattle.label.specs.Relay.{receivers}
use Rattle.semantics.specs.Relay.{Relay, relayed}
use Rattle.semantics.specs.declared.entry.Entry.{Entry}
use Rattle.semantics.specs.Outbox.{places}
use Rattle.semantics.proofs.PlacesLaws.{row_from, rows_from}
use Rattle.outbox.specs.Masks.{has_bit, kept_from}
use Rattle.outbox.specs.Rows.{RowOrders, receivers_in, orders_in, row_of, all_put, IsRow}
use Rattle.outbox.specs.Contents.{Contents, contents_of, IsOutbox}
use Rattle.outbox.proofs.Masking.{kept_at}
use Rattle.outbox.proofs.RowLemmas.{on-below}
use Rattle.outbox.proofs.Whole.{Stand, stand_parts}

-- An array with the same order for all thirteen numbers.
long_alike : (m order : ℕ) → length (replicate m order) ≡ m
long_alike zero order = refl
long_alike (suc m) order = ap suc (long_alike m order)

pub kept_alike : (mask order n : ℕ) → n < 13 → get_or (kept_from mask 0 (replicate 13 order)) n None ≡ (if has_bit mask n then Some order else None)
kept_alike mask order n lt =
    let e : 0 + n ≡ n = omega arith in
    let long : length (replicate 13 order) ≡ 13 = long_alike 13 order in
    kept_at mask 0 n (replicate 13 order) (omega arith) ∙ (ap (λ k. if has_bit mask k then Some (get_or (replicate 13 order) n 0) else None) e
    ∙ ap (λ v. if has_bit mask n then Some v else None) (get_or-replicate 13 n order 0 lt))

-- A row in which all receivers have this order.
pub row_all : (os new : List (Option ℕ)) (ns : List ℕ) (order : ℕ) → ((n : ℕ) → on ns n ≡ true → get_or new n None ≡ Some order) → row_of new ns ≡ all_put order (row_of os ns)
row_all os new [] order h = refl
row_all os new (n ∷ ns) order h =
    let here : get_or new n None ≡ Some order = h n (or_left (n == n) (on ns n) (eq-eqb n n refl)) in
    let rest : row_of new ns ≡ all_put order (row_of os ns) = row_all os new ns order (λ k there. h k (or_right (n == k) (on ns k) there)) in
    rw (here, rest) refl

pub put_to_all : (os new : List (Option ℕ)) (ns : List ℕ) (mask order : ℕ) → IsRow os ns → ((n : ℕ) → n < 13 → get_or new n None ≡ (if has_bit mask n then Some order else None)) → ((g : ℕ) → g < 13 → has_bit mask g ≡ on ns g) → row_of new ns ≡ all_put order (row_of os ns)
put_to_all os new ns mask order row each bits =
    row_all os new ns order (λ n there.
    let low : n < 13 = on-below 13 ns n row.below there in
    each n low ∙ ap (λ (b : Bool). if b then Some order else None) (bits n low ∙ there))

pub row_to_all : (os new : List (Option ℕ)) (ns : List ℕ) (mask order : ℕ) → IsRow os ns → length new ≡ 13 → ((n : ℕ) → n < 13 → get_or new n None ≡ (if has_bit mask n then Some order else None)) → ((g : ℕ) → g < 13 → has_bit mask g ≡ on ns g) → IsRow new ns
row_to_all os new ns mask order row long each bits = record {
  long = long;
  below = row.below;
  distinct = row.distinct;
  absent = λ n away. elim (cases_lt n 13) [
    | inl low ↦ each n low ∙ ap (λ (b : Bool). if b then Some order else None) (bits n low ∙ away)
    | inr past ↦ get_or_past new n None (omega arith)
  ];
}

-- Returns the rows after an order is put for all receivers of each of the first `m` rows. The order depends on the
-- row's rank.
abbrev pub all_first : (ℕ → ℕ) → ℕ → ℕ → List RowOrders → List RowOrders
all_first f a zero rows = rows
all_first f a (suc m) [] = []
all_first f a (suc m) (row ∷ rows) = all_put (f a) row ∷ all_first f (a + 1) m rows

put_names : (v : ℕ) (row : RowOrders) → receivers_in (all_put v row) ≡ receivers_in row
put_names v [] = refl
put_names v (p ∷ row) = ap (λ xs. p.0 ∷ xs) (put_names v row)

all_names : (f : ℕ → ℕ) (a m : ℕ) (rows : List RowOrders) → map receivers_in (all_first f a m rows) ≡ map receivers_in rows
all_names f a zero rows = refl
all_names f a (suc m) [] = refl
all_names f a (suc m) (row ∷ rows) = rw (put_names (f a) row, all_names f (a + 1) m rows) refl

pub all_long : (f : ℕ → ℕ) (a m : ℕ) (rows : List RowOrders) → length (all_first f a m rows) ≡ length rows
all_long f a zero rows = refl
all_long f a (suc m) [] = refl
all_long f a (suc m) (row ∷ rows) = ap suc (all_long f (a + 1) m rows)

all_next : (f : ℕ → ℕ) (a m : ℕ) (rows : List RowOrders) (d : RowOrders) → m < length rows → get_or (all_first f a m rows) m d ≡ get_or rows m d
all_next f a m [] d l = absurd (omega arith)
all_next f a zero (row ∷ rows) d l = refl
all_next f a (suc m) (row ∷ rows) d l = all_next f (a + 1) m rows d (omega arith)

all_more : (f : ℕ → ℕ) (a m : ℕ) (rows : List RowOrders) (d : RowOrders) → m < length rows → set (all_first f a m rows) m (all_put (f (a + m)) (get_or rows m d)) ≡ all_first f a (suc m) rows
all_more f a m [] d l = absurd (omega arith)
all_more f a zero (row ∷ rows) d l = rw (add-zero a) refl
all_more f a (suc m) (row ∷ rows) d l =
    let e : a + suc m ≡ a + 1 + m = omega arith in
    rw e (ap (λ xs. all_put (f a) row ∷ xs) (all_more f (a + 1) m rows d (omega arith)))

-- The order is put in one more row.
pub all_step : (f : ℕ → ℕ) (m : ℕ) (rows cur : List RowOrders) (row new : RowOrders) → cur ≡ all_first f 0 m rows → m < length rows → row ≡ get_or cur m row → new ≡ all_put (f m) row → set cur m new ≡ all_first f 0 (m + 1) rows
all_step f m rows cur row new e l at is =
    let was : row ≡ get_or rows m row = at ∙ (ap (λ xs. get_or xs m row) e ∙ all_next f 0 m rows row l) in
    let next : new ≡ all_put (f (0 + m)) (get_or rows m row) = is ∙ (ap (λ k. all_put (f k) row) (sym (zero-add m)) ∙ ap (all_put (f (0 + m))) was) in
    ap (λ xs. set xs m new) e ∙ (ap (set (all_first f 0 m rows) m) next ∙ (all_more f 0 m rows row l ∙ ap (λ k. all_first f 0 k rows) (sym (add-one m))))

pub all_stand : (relay other : Relay) (f : ℕ → ℕ) (m : ℕ) (rows cur : List RowOrders) → IsOutbox relay rows → other ≡ relay → cur ≡ all_first f 0 m rows → IsOutbox other cur
all_stand relay other f m rows cur a same e =
    let here : IsOutbox relay cur = record { within = a.within; names = ap (map receivers_in) e ∙ (all_names f 0 m rows ∙ a.names) } in
    subst (λ (k : Relay). IsOutbox k cur) (sym same) here

-- The orders are put in all rows.
row_done : (f : ℕ → ℕ) (k b : ℕ) (row : RowOrders) → orders_in (all_put (f k) row) ≡ map (λ place. Some (f place.rank)) (row_from k b (receivers_in row))
row_done f k b [] = refl
row_done f k b (p ∷ row) = ap (λ xs. Some (f k) ∷ xs) (row_done f k (b + 1) row)

rows_done : (f : ℕ → ℕ) (s : Shape) (a : ℕ) (rows : List RowOrders) (ws : List (List ℕ)) → Stand s rows ws → map orders_in (all_first f a (length rows) rows) ≡ map (λ row. map (λ place. Some (f place.rank)) row) (rows_from s a ws)
rows_done f s a [] [] e = refl
rows_done f s a [] (w ∷ ws) e = cc
rows_done f s a (row ∷ rows) [] e = cc
rows_done f s a (row ∷ rows) (w ∷ ws) e =
    let parts = stand_parts s row rows w ws e in
    let here : orders_in (all_put (f a) row) ≡ map (λ place. Some (f place.rank)) (row_from a 0 (receivers s w)) = row_done f a 0 row ∙ ap (λ ns. map (λ place. Some (f place.rank)) (row_from a 0 ns)) parts.0 in
    let rest : map orders_in (all_first f (a + 1) (length rows) rows) ≡ map (λ row. map (λ place. Some (f place.rank)) row) (rows_from s (a + 1) ws) = rows_done f s (a + 1) rows ws parts.1 in
    rw (here, rest) refl

pub all_done : (now : Contents) (relay : Relay) (entries : List Entry) (f : ℕ → ℕ) (m : ℕ) (rows cur : List RowOrders) → contents_of relay entries rows ≡ now → IsOutbox relay rows → m ≡ length rows → cur ≡ all_first f 0 m rows → map orders_in cur ≡ map (λ row. map (λ place. Some (f place.rank)) row) (places now.relay)
all_done now relay entries f m rows cur seen a all e =
    subst (λ (k : Contents). map orders_in cur ≡ map (λ row. map (λ place. Some (f place.rank)) row) (places k.relay)) seen
    (ap (map orders_in) (e ∙ ap (λ k. all_first f 0 k rows) all) ∙ rows_done f relay.shape 0 rows (relayed relay) a.names)
