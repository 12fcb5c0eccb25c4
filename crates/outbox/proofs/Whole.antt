-- What a call writes into all rows.
use Rattle.std.proofs.Common.{ℕ, zero, suc, ◌+◌, ◌<◌, ◌≤◌, ◌≡◌, Bool, true, false, cond, List, [], ◌∷◌, ◌++◌, map, length, get_or, set, refl, ap, arith, Some, None, add-zero}
use Rattle.std.specs.Prelude.{◌==◌, if◌then◌else◌, zip}
use Rattle.label.specs.declared.shape.Shape.{Shape}
use Rattle.label.specs.Labels.{on}
use Rattle.label.specs.Relay.{receivers}
use Rattle.semantics.specs.State.{Outbox}
use Rattle.semantics.specs.Outbox.{Choice}
use Rattle.semantics.proofs.PlacesLaws.{row_from, sets, rows_from, sets_in, sets_in-cons}
use Rattle.outbox.specs.Rows.{RowOrders, receivers_in, orders_in, put_in_row, put_first, found_first}
use Rattle.outbox.proofs.Writing.{row_written, row_one_written, sets_one}
use Rattle.label.proofs.Counting.{others-distinct}

-- States that each row has the receivers of its label.
abbrev pub Stand : Shape → List RowOrders → List (List ℕ) → Type 0
Stand s rows ws = map receivers_in rows ≡ map (receivers s) ws

-- Returns the rows from rank `a` on after a call has put orders.
abbrev pub rows_written : Choice → Shape → ℕ → List (List ℕ) → Outbox → Outbox
rows_written choice s a ws outbox = map (λ row. row_written choice row.0 row.1) (zip (rows_from s a ws) outbox)

pub put_names : (r v : ℕ) (row : RowOrders) → receivers_in (put_in_row r v row) ≡ receivers_in row
put_names r v [] = refl
put_names r v (p ∷ row) = ap (λ xs. p.0 ∷ xs) (put_names r v row)

pub first_names : (r : ℕ) (f : ℕ → ℕ) (a m : ℕ) (rows : List RowOrders) → map receivers_in (put_first r f a m rows) ≡ map receivers_in rows
first_names r f a zero rows = refl
first_names r f a (suc m) [] = refl
first_names r f a (suc m) (row ∷ rows) = rw (put_names r (f a) row, first_names r f (a + 1) m rows) refl

pub first_long : (r : ℕ) (f : ℕ → ℕ) (a m : ℕ) (rows : List RowOrders) → length (put_first r f a m rows) ≡ length rows
first_long r f a zero rows = refl
first_long r f a (suc m) [] = refl
first_long r f a (suc m) (row ∷ rows) = ap suc (first_long r f (a + 1) m rows)

-- The next row is still as it was.
pub first_next : (r : ℕ) (f : ℕ → ℕ) (a m : ℕ) (rows : List RowOrders) (d : RowOrders) → m < length rows → get_or (put_first r f a m rows) m d ≡ get_or rows m d
first_next r f a m [] d l = absurd (omega arith)
first_next r f a zero (row ∷ rows) d l = refl
first_next r f a (suc m) (row ∷ rows) d l = first_next r f (a + 1) m rows d (omega arith)

pub first_more : (r : ℕ) (f : ℕ → ℕ) (a m : ℕ) (rows : List RowOrders) (d : RowOrders) → m < length rows → set (put_first r f a m rows) m (put_in_row r (f (a + m)) (get_or rows m d)) ≡ put_first r f a (suc m) rows
first_more r f a m [] d l = absurd (omega arith)
first_more r f a zero (row ∷ rows) d l = rw (add-zero a) refl
first_more r f a (suc m) (row ∷ rows) d l =
    let e : a + suc m ≡ a + 1 + m = omega arith in
    rw e (ap (λ xs. put_in_row r (f a) row ∷ xs) (first_more r f (a + 1) m rows d (omega arith)))

pub found_more : (r m : ℕ) (rows : List RowOrders) (d : RowOrders) → m < length rows → found_first r (suc m) rows ≡ found_first r m rows + cond {A = ℕ} (on (receivers_in (get_or rows m d)) r) 1 0
found_more r m [] d l = absurd (omega arith)
found_more r zero (row ∷ rows) d l = omega arith
found_more r (suc m) (row ∷ rows) d l =
    let ih : found_first r (suc m) rows ≡ found_first r m rows + cond {A = ℕ} (on (receivers_in (get_or rows m d)) r) 1 0 = found_more r m rows d (omega arith) in
    omega arith

pub found_few : (r m : ℕ) (rows : List RowOrders) → found_first r m rows ≤ m
found_few r zero rows = omega arith
found_few r (suc m) [] = omega arith
found_few r (suc m) (row ∷ rows) =
    let bit : cond {A = ℕ} (on (receivers_in row) r) 1 0 ≤ 1 = at_most (on (receivers_in row) r) in
    let rest : found_first r m rows ≤ m = found_few r m rows in
    omega arith
  where
    at_most : (b : Bool) → cond {A = ℕ} b 1 0 ≤ 1
    at_most true = omega arith
    at_most false = omega arith

-- If each row has the receivers of its label, so do the first row and the others.
pub stand_parts : (s : Shape) (row : RowOrders) (rows : List RowOrders) (w : List ℕ) (ws : List (List ℕ)) → Stand s (row ∷ rows) (w ∷ ws) → (receivers_in row ≡ receivers s w) × Stand s rows ws
stand_parts s row rows w ws e = (cc, cc)

-- A call that puts an order for one receiver at every label.
pub all_written : (choice : Choice) (s : Shape) (r : ℕ) (f : ℕ → ℕ) → ((k b n : ℕ) → choice (record { rank = k; number = b; receiver = n }) ≡ (if n == r then Some (f k) else None)) → (a : ℕ) (rows : List RowOrders) (ws : List (List ℕ)) → Stand s rows ws → rows_written choice s a ws (map orders_in rows) ≡ map orders_in (put_first r f a (length rows) rows)
all_written choice s r f goes a [] [] e = refl
all_written choice s r f goes a [] (w ∷ ws) e = cc
all_written choice s r f goes a (row ∷ rows) [] e = cc
all_written choice s r f goes a (row ∷ rows) (w ∷ ws) e =
    let parts = stand_parts s row rows w ws e in
    let here : row_written choice (row_from a 0 (receivers s w)) (orders_in row) ≡ orders_in (put_in_row r (f a) row) = rw (← parts.0) (row_one_written choice r (f a) a (goes a) 0 row) in
    let rest : rows_written choice s (a + 1) ws (map orders_in rows) ≡ map orders_in (put_first r f (a + 1) (length rows) rows) = all_written choice s r f goes (a + 1) rows ws parts.1 in
    rw (here, rest) refl

pub all_set : (choice : Choice) (s : Shape) (r : ℕ) (f : ℕ → ℕ) → ((k b n : ℕ) → choice (record { rank = k; number = b; receiver = n }) ≡ (if n == r then Some (f k) else None)) → (a : ℕ) (rows : List RowOrders) (ws : List (List ℕ)) → Stand s rows ws → sets_in choice (rows_from s a ws) ≡ found_first r (length rows) rows
all_set choice s r f goes a [] [] e = refl
all_set choice s r f goes a [] (w ∷ ws) e = cc
all_set choice s r f goes a (row ∷ rows) [] e = cc
all_set choice s r f goes a (row ∷ rows) (w ∷ ws) e =
    let parts = stand_parts s row rows w ws e in
    let here : sets choice (row_from a 0 (receivers s w)) ≡ cond {A = ℕ} (on (receivers_in row) r) 1 0 = rw parts.0 (sets_one choice r (f a) a (goes a) 0 (receivers s w) (others-distinct s.generals (w ++ s.general ∷ []))) in
    let rest : sets_in choice (rows_from s (a + 1) ws) ≡ found_first r (length rows) rows = all_set choice s r f goes (a + 1) rows ws parts.1 in
    rw (sets_in-cons choice (row_from a 0 (receivers s w)) (rows_from s (a + 1) ws), here, rest) refl
