-- Lemmas about storing the orders of a level as a list of orders and a list of flags.
use Rattle.std.proofs.Common.{ℕ, zero, suc, ◌+◌, ◌<◌, ◌≡◌, Bool, true, false, List, [], ◌∷◌, ◌++◌, map, length, get_or, replicate, refl, sym, ap, ◌∙◌, arith, Some, None, Option}
use Rattle.std.specs.Prelude.{is_some, slice_get, unwrap_or, Vec}
use Rattle.std.specs.Vec.{with_items}
use Rattle.std.specs.declared.alloc.Global.{Global}
use Rattle.std.proofs.Math.ListN.{set}
use Rattle.std.proofs.lemmas.Bool.{true≢false}
use Rattle.std.proofs.lemmas.List.{length-map, map-append, map-set, with_items_is}
use Rattle.label.specs.Oral.{order_of}
use Rattle.tree.specs.Flags.{values_in, AreValues}
use Rattle.tree.specs.LieutenantTree.{run_written}
use Rattle.tree.proofs.Runs.{run-long, run-map, run-more}

-- The flags and orders of a list of values give these values.
pub values-in : (vs : List (Option ℕ)) → values_in (map is_some vs) (map order_of vs) ≡ vs
unfolding values_in
values-in [] = refl
values-in (None ∷ vs) = ap (λ us. None ∷ us) (values-in vs)
values-in (Some v ∷ vs) = ap (λ us. Some v ∷ us) (values-in vs)

pub values-made : (told : List Bool) (orders : List ℕ) (vs : List (Option ℕ)) → told ≡ map is_some vs → orders ≡ map order_of vs → values_in told orders ≡ vs
values-made told orders vs et eo = (λ i. values_in (et i) (eo i)) ∙ values-in vs

pub values-kept : (told : List Bool) (orders : List ℕ) (kept : AreValues told orders) → values_in told orders ≡ kept.values
values-kept told orders kept = values-made told orders kept.values kept.told_is kept.orders_is

pub orders-kept : (told : List Bool) (orders : List ℕ) → AreValues told orders → orders ≡ map order_of (values_in told orders)
orders-kept told orders kept = kept.orders_is ∙ ap (map order_of) (sym (values-kept told orders kept))

pub told-kept : (told : List Bool) (orders : List ℕ) → AreValues told orders → told ≡ map is_some (values_in told orders)
told-kept told orders kept = kept.told_is ∙ ap (map is_some) (sym (values-kept told orders kept))

-- Both lists are as long as the list of values.
pub orders-long : (told : List Bool) (orders : List ℕ) → AreValues told orders → length orders ≡ length (values_in told orders)
orders-long told orders kept = ap length (orders-kept told orders kept) ∙ length-map (values_in told orders) order_of

pub told-long : (told : List Bool) (orders : List ℕ) → AreValues told orders → length told ≡ length (values_in told orders)
told-long told orders kept = ap length (told-kept told orders kept) ∙ length-map (values_in told orders) is_some

-- The lists of a level for which nothing was received.
none-flags : (n : ℕ) → replicate n false ≡ map is_some (replicate {A = Option ℕ} n None)
none-flags zero = refl
none-flags (suc n) = ap (λ flags. false ∷ flags) (none-flags n)

none-orders : (n : ℕ) → replicate n 0 ≡ map order_of (replicate n None)
none-orders zero = refl
none-orders (suc n) = ap (λ orders. 0 ∷ orders) (none-orders n)

pub nothing-kept : (told : List Bool) (orders : List ℕ) (n m : ℕ) → n ≡ m → told ≡ replicate n false → orders ≡ replicate m 0 → AreValues told orders
nothing-kept told orders n m e et eo = record { values = replicate n None; told_is = et ∙ none-flags n; orders_is = eo ∙ (ap (λ (k : ℕ). replicate k 0) (sym e) ∙ none-orders n) }

pub nothing-in : (told : List Bool) (orders : List ℕ) (n m : ℕ) → n ≡ m → told ≡ replicate n false → orders ≡ replicate m 0 → values_in told orders ≡ replicate n None
nothing-in told orders n m e et eo = values-made told orders (replicate n None) (et ∙ none-flags n) (eo ∙ (ap (λ (k : ℕ). replicate k 0) (sym e) ∙ none-orders n))

-- The order that is stored at an index.
told-there : (vs : List (Option ℕ)) (place : ℕ) (flag : Bool) (order : ℕ) → place < length vs → flag ≡ get_or (map is_some vs) place flag → flag ≡ true → order ≡ get_or (map order_of vs) place order → slice_get vs place ≡ Some (Some order)
told-there [] place flag order within ef it eo = absurd (omega arith)
told-there (None ∷ vs) zero flag order within ef it eo = absurd (true≢false (sym it ∙ ef))
told-there (Some v ∷ vs) zero flag order within ef it eo = ap (λ (o : ℕ). Some (Some o)) (sym eo)
told-there (v ∷ vs) (suc place) flag order within ef it eo = told-there vs place flag order (omega arith) ef it eo

silent-there : (vs : List (Option ℕ)) (place : ℕ) (flag : Bool) → place < length vs → flag ≡ get_or (map is_some vs) place flag → flag ≡ false → slice_get vs place ≡ Some None
silent-there [] place flag within ef it = absurd (omega arith)
silent-there (None ∷ vs) zero flag within ef it = refl
silent-there (Some v ∷ vs) zero flag within ef it = absurd (true≢false (sym ef ∙ it))
silent-there (v ∷ vs) (suc place) flag within ef it = silent-there vs place flag (omega arith) ef it

pub told-at : (told : List Bool) (orders : List ℕ) (place : ℕ) (flag : Bool) (order : ℕ) → AreValues told orders → place < length (values_in told orders) → flag ≡ get_or told place flag → flag ≡ true → order ≡ get_or orders place order → slice_get (values_in told orders) place ≡ Some (Some order)
told-at told orders place flag order kept within ef it eo =
    told-there (values_in told orders) place flag order within (ef ∙ ap (λ flags. get_or flags place flag) (told-kept told orders kept)) it
    (eo ∙ ap (λ (os : List ℕ). get_or os place order) (orders-kept told orders kept))

pub silent-at : (told : List Bool) (orders : List ℕ) (place : ℕ) (flag : Bool) → AreValues told orders → place < length (values_in told orders) → flag ≡ get_or told place flag → flag ≡ false → slice_get (values_in told orders) place ≡ Some None
silent-at told orders place flag kept within ef it =
    silent-there (values_in told orders) place flag within (ef ∙ ap (λ flags. get_or flags place flag) (told-kept told orders kept)) it

order-is : (value : Option ℕ) → unwrap_or value 0 ≡ order_of value
order-is None = refl
order-is (Some v) = refl

-- Storing an order at an index.
pub put-flags : (told new : List Bool) (orders : List ℕ) (place : ℕ) (value : Option ℕ) (flag : Bool) → AreValues told orders → flag ≡ is_some value → new ≡ set told place flag → new ≡ map is_some (set (values_in told orders) place value)
put-flags told new orders place value flag kept ef en =
    en ∙ ((λ i. set (told-kept told orders kept i) place (ef i)) ∙ sym (map-set is_some (values_in told orders) place value))

pub put-orders : (told : List Bool) (orders new : List ℕ) (place : ℕ) (value : Option ℕ) (order : ℕ) → AreValues told orders → order ≡ unwrap_or value 0 → new ≡ set orders place order → new ≡ map order_of (set (values_in told orders) place value)
put-orders told orders new place value order kept eo en =
    en ∙ ((λ i. set (orders-kept told orders kept i) place ((eo ∙ order-is value) i)) ∙ sym (map-set order_of (values_in told orders) place value))

-- Storing several orders, one after the other.
pub run-flags : (told new : List Bool) (orders : List ℕ) (first : ℕ) (values : List (Option ℕ)) → AreValues told orders → new ≡ run_written first (map is_some values) told → new ≡ map is_some (run_written first values (values_in told orders))
run-flags told new orders first values kept en =
    en ∙ (ap (run_written first (map is_some values)) (told-kept told orders kept) ∙ run-map is_some first values (values_in told orders))

pub run-orders : (told : List Bool) (orders new : List ℕ) (first : ℕ) (values : List (Option ℕ)) → AreValues told orders → new ≡ run_written first (map order_of values) orders → new ≡ map order_of (run_written first values (values_in told orders))
run-orders told orders new first values kept en =
    en ∙ (ap (run_written first (map order_of values)) (orders-kept told orders kept) ∙ run-map order_of first values (values_in told orders))

-- Storing one more of several orders.
pub order-more : (first n : ℕ) (vs : List (Option ℕ)) (row now : List ℕ) (v : Option ℕ) (order : ℕ) → length vs ≡ n → now ≡ run_written first (map order_of vs) row → order ≡ unwrap_or v 0 → set now (first + n) order ≡ run_written first (map order_of (vs ++ v ∷ [])) row
order-more first n vs row now v order long en eo =
    (λ i. set (en i) (first + n) ((eo ∙ order-is v) i))
    ∙ (sym (run-more first n (map order_of vs) row (order_of v) (length-map vs order_of ∙ long)) ∙ ap (λ (us : List ℕ). run_written first us row) (sym (map-append order_of vs (v ∷ []))))

pub flag-more : (first n : ℕ) (vs : List (Option ℕ)) (row now : List Bool) (v : Option ℕ) (flag : Bool) → length vs ≡ n → now ≡ run_written first (map is_some vs) row → flag ≡ is_some v → set now (first + n) flag ≡ run_written first (map is_some (vs ++ v ∷ [])) row
flag-more first n vs row now v flag long en ef =
    (λ i. set (en i) (first + n) (ef i))
    ∙ (sym (run-more first n (map is_some vs) row (is_some v) (length-map vs is_some ∙ long)) ∙ ap (λ (us : List Bool). run_written first us row) (sym (map-append is_some vs (v ∷ []))))

-- A vector to which several elements were written.
pub written : {A : Type 0} (row : Vec A Global) (first : ℕ) (vs old new : List A) → old ≡ row.items → new ≡ run_written first vs old → (with_items row new).items ≡ run_written first vs row.items
written row first vs old new eo en =
    let e : new ≡ run_written first vs row.items = en ∙ ap (run_written first vs) eo in
    let long : length new ≡ length row.items = ap length e ∙ run-long first vs row.items in
    with_items_is row new (let o = row.ok in omega arith) ∙ e

pub made-kept : (told : List Bool) (orders : List ℕ) (values : List (Option ℕ)) → told ≡ map is_some values → orders ≡ map order_of values → AreValues told orders
made-kept told orders values et eo = record { values = values; told_is = et; orders_is = eo }
