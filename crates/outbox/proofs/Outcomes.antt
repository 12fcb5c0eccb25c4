-- From the rows that the code stores to the outbox that contracts see.
use Rattle.std.proofs.Common.{ℕ, zero, suc, ◌+◌, ◌<◌, ◌≤◌, ◌≡◌, Bool, cond, List, [], ◌∷◌, ◌++◌, map, length, take, drop, get_or, set, refl, sym, ap, ◌∙◌, arith, Option, Some, None, subst, add-one, zero-add}
use Rattle.std.specs.Prelude.{◌==◌, if◌then◌else◌}
use Rattle.std.proofs.lemmas.List.{length-map}
use Rattle.label.specs.declared.shape.Shape.{Shape}
use Rattle.label.specs.Labels.{on}
use Rattle.label.specs.Relay.{receivers}
use Rattle.semantics.specs.Relay.{Relay, relayed}
use Rattle.semantics.specs.declared.entry.Entry.{Entry}
use Rattle.semantics.specs.Outbox.{Choice, written, places_set}
use Rattle.semantics.proofs.PlacesLaws.{relays_few}
use Rattle.outbox.specs.Rows.{RowOrders, receivers_in, orders_in, put_in_row, put_first, found_first}
use Rattle.outbox.specs.Contents.{Signing, relay_of, Contents, contents_of, IsOutbox}
use Rattle.outbox.proofs.Whole.{first_names, first_long, first_next, first_more, found_more, all_written, all_set}

-- There are at most 990 rows.
pub rows_few : (relay : Relay) (rows : List RowOrders) → IsOutbox relay rows → length rows ≤ 990
rows_few relay rows a =
    let few : length (relayed relay) ≤ 990 = relays_few relay a.within in
    let same : length rows ≡ length (relayed relay) = sym (length-map rows receivers_in) ∙ (ap length a.names ∙ length-map (relayed relay) (receivers relay.shape)) in
    omega arith

-- An order is put in one more row.
pub sweep_step : (r : ℕ) (f : ℕ → ℕ) (m : ℕ) (rows cur : List RowOrders) (row new : RowOrders) → cur ≡ put_first r f 0 m rows → m < length rows → row ≡ get_or cur m row → new ≡ put_in_row r (f m) row → set cur m new ≡ put_first r f 0 (m + 1) rows
sweep_step r f m rows cur row new e l at is =
    let was : row ≡ get_or rows m row = at ∙ (ap (λ xs. get_or xs m row) e ∙ first_next r f 0 m rows row l) in
    let next : new ≡ put_in_row r (f (0 + m)) (get_or rows m row) = is ∙ (ap (λ k. put_in_row r (f k) row) (sym (zero-add m)) ∙ ap (put_in_row r (f (0 + m))) was) in
    ap (λ xs. set xs m new) e ∙ (ap (set (put_first r f 0 m rows) m) next ∙ (first_more r f 0 m rows row l ∙ ap (λ k. put_first r f 0 k rows) (sym (add-one m))))

pub count_step : (r m count : ℕ) (rows : List RowOrders) (row : RowOrders) (there : Bool) → row ≡ get_or rows m row → m < length rows → there ≡ on (receivers_in row) r → count ≡ found_first r m rows → count + cond {A = ℕ} there 1 0 ≡ found_first r (m + 1) rows
count_step r m count rows row there was l t is =
    let bit : cond {A = ℕ} there 1 0 ≡ cond {A = ℕ} (on (receivers_in (get_or rows m row)) r) 1 0 = ap (λ b. cond {A = ℕ} b 1 0) (t ∙ ap (λ x. on (receivers_in x) r) was) in
    let more : found_first r (suc m) rows ≡ found_first r m rows + cond {A = ℕ} (on (receivers_in (get_or rows m row)) r) 1 0 = found_more r m rows row l in
    rw (add-one m) (omega arith)

pub sweep_stands : (relay other : Relay) (r : ℕ) (f : ℕ → ℕ) (m : ℕ) (rows cur : List RowOrders) → IsOutbox relay rows → other ≡ relay → cur ≡ put_first r f 0 m rows → IsOutbox other cur
sweep_stands relay other r f m rows cur a same e =
    let here : IsOutbox relay cur = record { within = a.within; names = ap (map receivers_in) e ∙ (first_names r f 0 m rows ∙ a.names) } in
    subst (λ (k : Relay). IsOutbox k cur) (sym same) here

-- An order is put in each row, and the vector again has all these rows.
rows_back : (n : ℕ) (rows new : List RowOrders) → n ≡ length rows → length new ≡ length rows → take n (new ++ drop (length new) rows) ≡ new
rows_back zero [] [] e l = refl
rows_back zero (row ∷ rows) new e l = absurd (omega arith)
rows_back n [] (x ∷ new) e l = absurd (omega arith)
rows_back n (row ∷ rows) [] e l = absurd (omega arith)
rows_back (suc n) [] new e l = absurd (omega arith)
rows_back (suc n) (row ∷ rows) (x ∷ new) e l = ap (λ xs. x ∷ xs) (rows_back n rows new (omega arith) (omega arith))

pub each_put : (n r : ℕ) (f : ℕ → ℕ) (rows lent new : List RowOrders) → n ≡ length rows → lent ≡ rows → new ≡ put_first r f 0 (length lent) lent → take n (new ++ drop (length new) rows) ≡ put_first r f 0 (length rows) rows
each_put n r f rows lent new all same e =
    let is : new ≡ put_first r f 0 (length rows) rows = e ∙ ap (λ xs. put_first r f 0 (length xs) xs) same in
    let long : length new ≡ length rows = ap length is ∙ first_long r f 0 (length rows) rows in
    rows_back n rows new all long ∙ is

-- All rows are written.
pub sweep_written : (choice : Choice) (now : Contents) (relay : Relay) (entries : List Entry) (r : ℕ) (f : ℕ → ℕ) (m : ℕ) (rows cur : List RowOrders) → ((k b n : ℕ) → choice (record { rank = k; number = b; receiver = n }) ≡ (if n == r then Some (f k) else None)) → contents_of relay entries rows ≡ now → IsOutbox relay rows → m ≡ length rows → cur ≡ put_first r f 0 m rows → map orders_in cur ≡ written now.relay choice now.rows
sweep_written choice now relay entries r f m rows cur goes seen a all e =
    subst (λ (k : Contents). map orders_in cur ≡ written k.relay choice k.rows) seen
    (ap (map orders_in) (e ∙ ap (λ k. put_first r f 0 k rows) all) ∙ sym (all_written choice relay.shape r f goes 0 rows (relayed relay) a.names))

pub sweep_counted : (choice : Choice) (now : Contents) (relay : Relay) (entries : List Entry) (r : ℕ) (f : ℕ → ℕ) (m count : ℕ) (rows : List RowOrders) → ((k b n : ℕ) → choice (record { rank = k; number = b; receiver = n }) ≡ (if n == r then Some (f k) else None)) → contents_of relay entries rows ≡ now → IsOutbox relay rows → m ≡ length rows → count ≡ found_first r m rows → count ≡ places_set now.relay choice
sweep_counted choice now relay entries r f m count rows goes seen a all e =
    subst (λ (k : Contents). count ≡ places_set k.relay choice) seen
    (e ∙ (ap (λ k. found_first r k rows) all ∙ sym (all_set choice relay.shape r f goes 0 rows (relayed relay) a.names)))

-- A relay is given by its shape and the chains held.
pub same_relay : {s t : Shape} {one other : Option Signing} → s ≡ t → one ≡ other → relay_of s one ≡ relay_of t other
same_relay e f = λ i. relay_of (e i) (f i)
