-- Uniform rows, in which all receivers have one order, and mixed rows.
use Rattle.std.proofs.Common.{ℕ, zero, suc, ◌+◌, ◌<◌, ◌≤◌, ◌≡◌, ◌≢◌, Bool, true, false, ◌||◌, List, [], ◌∷◌, ◌++◌, map, length, get_or, set, replicate, refl, sym, ap, ◌∙◌, arith, Some, None, Option, length-set}
use Rattle.std.specs.Prelude.{◌==◌, if◌then◌else◌}
use Rattle.std.proofs.lemmas.List.{length-replicate}
use Rattle.label.specs.Labels.{on}
use Rattle.outbox.specs.Rows.{RowOrders, receivers_in, orders_in, order_in, alike_row, empty_row, all_put, row_of, rows_seen}
use Rattle.outbox.proofs.Single.{same_default}

pub alike_names : (o : Option ℕ) (ns : List ℕ) → receivers_in (alike_row o ns) ≡ ns
alike_names o [] = refl
alike_names o (n ∷ ns) = ap (λ xs. n ∷ xs) (alike_names o ns)

alike_orders : (o : Option ℕ) (ns : List ℕ) → orders_in (alike_row o ns) ≡ replicate (length ns) o
alike_orders o [] = refl
alike_orders o (n ∷ ns) = ap (λ xs. o ∷ xs) (alike_orders o ns)

pub alike_put : (o : Option ℕ) (v : ℕ) (ns : List ℕ) → alike_row (Some v) ns ≡ all_put v (alike_row o ns)
alike_put o v [] = refl
alike_put o v (n ∷ ns) = ap (λ xs. (n, Some v) ∷ xs) (alike_put o v ns)

alike_order : (o : Option ℕ) (ns : List ℕ) (r : ℕ) → order_in r (alike_row o ns) ≡ (if on ns r then o else None)
alike_order o [] r = refl
alike_order o (n ∷ ns) r = one (n == r) (on ns r) o (order_in r (alike_row o ns)) (alike_order o ns r)
  where
    one : (a b : Bool) (o rest : Option ℕ) → rest ≡ (if b then o else None) → (if a then o else rest) ≡ (if (a || b) then o else None)
    one true b o rest e = refl
    one false b o rest e = e

-- The receivers of a uniform row.
pub names_seen : (o : Option ℕ) (ns : List ℕ) (now : RowOrders) → alike_row o ns ≡ now → ns ≡ receivers_in now
names_seen o ns now seen = sym (alike_names o ns) ∙ ap receivers_in seen

pub order_seen : (o : Option ℕ) (ns : List ℕ) (now : RowOrders) (r : ℕ) (there : Bool) → alike_row o ns ≡ now → on ns r ≡ there → (if there then o else None) ≡ order_in r now
order_seen o ns now r there seen e = sym (ap (order_in r) (sym seen) ∙ (alike_order o ns r ∙ ap (λ (b : Bool). if b then o else None) e))

pub told_seen : (o : Option ℕ) (ns : List ℕ) (now : RowOrders) (count : ℕ) → alike_row o ns ≡ now → count ≡ length ns → replicate count o ≡ orders_in now
told_seen o ns now count seen e = ap (λ (k : ℕ). replicate k o) e ∙ (sym (alike_orders o ns) ∙ ap orders_in seen)

pub told_long : (o : Option ℕ) (count : ℕ) → count ≤ 13 → length (replicate count o) ≤ 13
told_long o count few = rw (length-replicate count o) few

pub one_more : (o : Option ℕ) (k : ℕ) → replicate k o ++ o ∷ [] ≡ replicate (k + 1) o
one_more o k = let e : k + 1 ≡ suc k = omega arith in behind o k ∙ ap (λ (i : ℕ). replicate i o) (sym e)
  where
    behind : (o : Option ℕ) (k : ℕ) → replicate k o ++ o ∷ [] ≡ replicate (suc k) o
    behind o zero = refl
    behind o (suc k) = ap (λ xs. o ∷ xs) (behind o k)

-- A mixed row that has the orders of a uniform one.
pub apart_some : (o : Option ℕ) (v : ℕ) (ns : List ℕ) (row new now : RowOrders) → o ≡ Some v → row ≡ empty_row ns → new ≡ all_put v row → alike_row o ns ≡ now → new ≡ now
apart_some o v ns row new now is fresh put seen = put ∙ (ap (all_put v) fresh ∙ (sym (alike_put None v ns) ∙ (ap (λ (x : Option ℕ). alike_row x ns) (sym is) ∙ seen)))

pub apart_none : (o : Option ℕ) (ns : List ℕ) (row now : RowOrders) → o ≡ None → row ≡ empty_row ns → alike_row o ns ≡ now → row ≡ now
apart_none o ns row now is fresh seen = fresh ∙ (ap (λ (x : Option ℕ). alike_row x ns) (sym is) ∙ seen)

-- The orders for the receivers of a row.
pub row_told : (os : List (Option ℕ)) (ns : List ℕ) → orders_in (row_of os ns) ≡ map (λ n. get_or os n None) ns
row_told os [] = refl
row_told os (n ∷ ns) = ap (λ xs. get_or os n None ∷ xs) (row_told os ns)

-- If there are as many mixed rows as there were rows, the outbox has the mixed rows.
pub seen_all : (alike apart new : List RowOrders) → length new ≡ length (rows_seen alike apart) → rows_seen alike new ≡ new
seen_all alike apart (row ∷ new) e = refl
seen_all [] [] [] e = refl
seen_all (row ∷ alike) [] [] e = absurd (omega arith)
seen_all alike (row ∷ apart) [] e = absurd (omega arith)

pub apart_all : (alike lent apart new now : List RowOrders) → lent ≡ alike → new ≡ rows_seen lent apart → rows_seen alike apart ≡ now → new ≡ now
apart_all alike lent apart new now same is seen = is ∙ (ap (λ (rows : List RowOrders). rows_seen rows apart) same ∙ seen)

pub seen_alike : (alike apart now : List RowOrders) → length apart ≡ 0 → rows_seen alike apart ≡ now → alike ≡ now
seen_alike alike [] now none seen = seen
seen_alike alike (row ∷ apart) now none seen = absurd (omega arith)

pub seen_apart : (alike apart now : List RowOrders) → length apart ≢ 0 → rows_seen alike apart ≡ now → apart ≡ now
seen_apart alike [] now some seen = absurd (some refl)
seen_apart alike (row ∷ apart) now some seen = seen

-- The row at a rank.
pub one_at : (cur now : List RowOrders) (rank : ℕ) (row : RowOrders) → cur ≡ now → rank < length now → row ≡ get_or cur rank row → row ≡ get_or now rank []
one_at cur now rank row same l at = at ∙ (ap (λ xs. get_or xs rank row) same ∙ same_default now rank row [] l)

one_set : (cur now : List RowOrders) (rank : ℕ) (row new : RowOrders) (change : RowOrders → RowOrders) → cur ≡ now → rank < length now → row ≡ get_or cur rank row → new ≡ change row → set cur rank new ≡ set now rank (change (get_or now rank []))
one_set cur now rank row new change same l at is =
    ap (λ (xs : List RowOrders). set xs rank new) same ∙ ap (set now rank) (is ∙ ap change (one_at cur now rank row same l at))

pub one_apart : (alike apart cur now : List RowOrders) (rank : ℕ) (row new : RowOrders) (change : RowOrders → RowOrders) → rows_seen alike apart ≡ now → cur ≡ now → rank < length now → row ≡ get_or cur rank row → new ≡ change row
    → rows_seen alike (set cur rank new) ≡ set now rank (change (get_or now rank []))
one_apart alike apart cur now rank row new change seen same l at is =
    let long : length (set cur rank new) ≡ length (rows_seen alike apart) = length-set cur rank new ∙ ap length (same ∙ sym seen) in
    seen_all alike apart (set cur rank new) long ∙ one_set cur now rank row new change same l at is
