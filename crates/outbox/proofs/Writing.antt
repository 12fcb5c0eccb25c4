-- What a call writes into one row.
use Rattle.std.proofs.Common.{ℕ, zero, suc, ◌+◌, ◌-◌, ◌≡◌, Bool, true, false, not, cond, ◌||◌, List, [], ◌∷◌, map, length, refl, sym, ap, ◌∙◌, arith, inl, inr, Some, None, Option, min}
use Rattle.std.specs.Prelude.{◌==◌, if◌then◌else◌, zip, is_some, slice_get}
use Rattle.std.proofs.lemmas.Bool.{and_parts, not-true}
use Rattle.std.proofs.lemmas.Bool.Decides.{eqb_tells}
use Rattle.label.specs.Labels.{on, is_distinct}
use Rattle.semantics.specs.Outbox.{Place, Choice, newer}
use Rattle.semantics.proofs.PlacesLaws.{row_from, sets, sets-cons}
use Rattle.outbox.specs.Rows.{RowOrders, receivers_in, orders_in, put_in_row, filled}

-- Returns the orders of a row after a call has put its orders there.
abbrev pub row_written : Choice → List Place → List (Option ℕ) → List (Option ℕ)
row_written choice places orders = map (λ p. newer (choice p.0) p.1) (zip places orders)

newer_if : (t : Bool) (v : ℕ) (o : Option ℕ) → newer (if t then Some v else None) o ≡ (if t then Some v else o)
newer_if true v o = refl
newer_if false v o = refl

-- A call that puts an order for one receiver.
pub row_one_written : (choice : Choice) (r v k : ℕ) → ((b n : ℕ) → choice (record { rank = k; number = b; receiver = n }) ≡ (if n == r then Some v else None)) → (b : ℕ) (row : RowOrders) → row_written choice (row_from k b (receivers_in row)) (orders_in row) ≡ orders_in (put_in_row r v row)
row_one_written choice r v k goes b [] = refl
row_one_written choice r v k goes b (p ∷ row) =
    rw (goes b p.0, newer_if (p.0 == r) v p.1, row_one_written choice r v k goes (b + 1) row) refl

-- A call that puts nothing in this row.
pub row_none_written : (choice : Choice) (k : ℕ) → ((b n : ℕ) → choice (record { rank = k; number = b; receiver = n }) ≡ None) → (b : ℕ) (row : RowOrders) → row_written choice (row_from k b (receivers_in row)) (orders_in row) ≡ orders_in row
row_none_written choice k none b [] = refl
row_none_written choice k none b (p ∷ row) = rw (none b p.0, row_none_written choice k none (b + 1) row) refl

-- A call that puts orders for the first receivers of the row.
pub row_along_written : (choice : Choice) (k : ℕ) (all : List ℕ) → ((b n : ℕ) → choice (record { rank = k; number = b; receiver = n }) ≡ slice_get all b) → (b : ℕ) (vs : List ℕ) → ((j : ℕ) → slice_get all (b + j) ≡ slice_get vs j) → (row : RowOrders) → row_written choice (row_from k b (receivers_in row)) (orders_in row) ≡ orders_in (filled vs row)
row_along_written choice k all goes b [] at [] = refl
row_along_written choice k all goes b (v ∷ vs) at [] = refl
row_along_written choice k all goes b [] at (p ∷ row) =
    let here : slice_get all b ≡ None = at_start all [] b at in
    rw (goes b p.0, here, row_along_written choice k all goes (b + 1) [] (λ j. at_next all b j ∙ at (suc j)) row) refl
  where
    at_start : (all vs : List ℕ) (b : ℕ) → ((j : ℕ) → slice_get all (b + j) ≡ slice_get vs j) → slice_get all b ≡ slice_get vs 0
    at_start all vs b at = let e : b ≡ b + 0 = omega arith in ap (slice_get all) e ∙ at 0

    at_next : (all : List ℕ) (b j : ℕ) → slice_get all (b + 1 + j) ≡ slice_get all (b + suc j)
    at_next all b j = let e : b + 1 + j ≡ b + suc j = omega arith in ap (slice_get all) e
row_along_written choice k all goes b (v ∷ vs) at (p ∷ row) =
    let here : slice_get all b ≡ Some v = at_start all (v ∷ vs) b at in
    rw (goes b p.0, here, row_along_written choice k all goes (b + 1) vs (λ j. at_next all b j ∙ at (suc j)) row) refl
  where
    at_start : (all vs : List ℕ) (b : ℕ) → ((j : ℕ) → slice_get all (b + j) ≡ slice_get vs j) → slice_get all b ≡ slice_get vs 0
    at_start all vs b at = let e : b ≡ b + 0 = omega arith in ap (slice_get all) e ∙ at 0

    at_next : (all : List ℕ) (b j : ℕ) → slice_get all (b + 1 + j) ≡ slice_get all (b + suc j)
    at_next all b j = let e : b + 1 + j ≡ b + suc j = omega arith in ap (slice_get all) e

-- How many orders a call for one receiver puts: at most one in a row.
is_some_if : (t : Bool) (v : ℕ) → is_some (if t then Some v else None) ≡ t
is_some_if true v = refl
is_some_if false v = refl

one_or_none : (t o : Bool) → (t ≡ true → o ≡ false) → cond {A = ℕ} t 1 0 + cond {A = ℕ} o 1 0 ≡ cond {A = ℕ} (t || o) 1 0
one_or_none true true h = let e : true ≡ false = h refl in cc
one_or_none true false h = refl
one_or_none false true h = refl
one_or_none false false h = refl

pub sets_one : (choice : Choice) (r v k : ℕ) → ((b n : ℕ) → choice (record { rank = k; number = b; receiver = n }) ≡ (if n == r then Some v else None)) → (b : ℕ) (ns : List ℕ) → is_distinct ns ≡ true → sets choice (row_from k b ns) ≡ cond {A = ℕ} (on ns r) 1 0
sets_one choice r v k goes b [] d = refl
sets_one choice r v k goes b (n ∷ ns) d =
    let both = and_parts (not (on ns n)) (is_distinct ns) d in
    let single : n == r ≡ true → on ns r ≡ false = λ e. elim (eqb_tells n r) [
      | inl same ↦ ap (on ns) (sym same.1) ∙ not-true (on ns n) both.0
      | inr apart ↦ let clash : true ≡ false = sym e ∙ apart.0 in cc
    ] in
    rw (sets-cons choice (record { rank = k; number = b; receiver = n }) (row_from k (b + 1) ns), goes b n, is_some_if (n == r) v, sets_one choice r v k goes (b + 1) ns both.1)
    (one_or_none (n == r) (on ns r) single)

-- How many orders a call along a row puts: as many as there are both receivers and orders.
pub sets_along : (choice : Choice) (k : ℕ) (all : List ℕ) → ((b n : ℕ) → choice (record { rank = k; number = b; receiver = n }) ≡ slice_get all b) → (b : ℕ) (ns : List ℕ) → sets choice (row_from k b ns) ≡ min (length ns) (length all - b)
sets_along choice k all goes b [] = omega arith
sets_along choice k all goes b (n ∷ ns) =
    let ih : sets choice (row_from k (b + 1) ns) ≡ min (length ns) (length all - (b + 1)) = sets_along choice k all goes (b + 1) ns in
    let here : cond {A = ℕ} (is_some (slice_get all b)) 1 0 ≡ min 1 (length all - b) = bit_at all b in
    rw (sets-cons choice (record { rank = k; number = b; receiver = n }) (row_from k (b + 1) ns), goes b n, here, ih) (omega arith)
  where
    bit_at : (all : List ℕ) (b : ℕ) → cond {A = ℕ} (is_some (slice_get all b)) 1 0 ≡ min 1 (length all - b)
    bit_at [] b = omega arith
    bit_at (x ∷ xs) zero = omega arith
    bit_at (x ∷ xs) (suc b) = let e : min 1 (length xs - b) ≡ min 1 (suc (length xs) - suc b) = omega arith in bit_at xs b ∙ e
