-- Lists of different orders, and the decision from them.
use Rattle.std.proofs.Common.{◌≡◌, ℕ, zero, suc, Bool, true, false, not, cond, List, [], ◌∷◌, ◌++◌, refl, sym, ◌∙◌, inl, inr}
use Rattle.std.specs.Prelude.{◌==◌}
use Rattle.std.proofs.lemmas.Bool.{or_right, or_cases, or_parts, or_from, and_parts, and_from, eq-eqb, eqb-true, not-true, not_from_false, false_from_ne_true}
use Rattle.label.specs.Labels.{on, is_distinct}
use Rattle.book.proofs.ConditionLemmas.{head_on}
use Rattle.signed.specs.Chains.{Chain, orders}
use Rattle.signed.specs.Accepted.{firsts, Deliveries, counted, accepted, added, decided}
use Rattle.signed.proofs.Lists.{on_append, orders_out, firsts_out}

pub distinct_append : (xs ys : List ℕ) → is_distinct xs ≡ true → is_distinct ys ≡ true → ((v : ℕ) → on xs v ≡ true → on ys v ≡ false) → is_distinct (xs ++ ys) ≡ true
distinct_append [] ys a b apart = b
distinct_append (x ∷ xs) ys a b apart =
    let parts = and_parts (not (on xs x)) (is_distinct xs) a in
    let off : on (xs ++ ys) x ≡ false = on_append xs ys x ∙ or_from (on xs x) (on ys x) (not-true (on xs x) parts.0) (apart x (head_on x xs)) in
    and_from (not (on (xs ++ ys) x)) (is_distinct (xs ++ ys)) (not_from_false (on (xs ++ ys) x) off) (distinct_append xs ys parts.1 b (λ v i. apart v (or_right (x == v) (on xs v) i)))

firsts_distinct_more : (seen : List ℕ) (x : Chain) (xs : List Chain) (b : Bool) → is_distinct (orders (firsts seen xs)) ≡ true → is_distinct (orders (firsts (x.order ∷ seen) xs)) ≡ true → is_distinct (orders (cond b (firsts seen xs) (x ∷ firsts (x.order ∷ seen) xs))) ≡ true
firsts_distinct_more seen x xs true ih ih2 = ih
firsts_distinct_more seen x xs false ih ih2 =
    let rest : List ℕ = orders (firsts (x.order ∷ seen) xs) in
    let off : on (orders (firsts (x.order ∷ seen) xs)) x.order ≡ false = false_from_ne_true (on (orders (firsts (x.order ∷ seen) xs)) x.order) (λ i.
    let o = orders_out (firsts (x.order ∷ seen) xs) x.order i in
    let f = (or_parts (x.order == o.0.order) (on seen o.0.order) (firsts_out (x.order ∷ seen) xs o.0 o.1.0).1).0 in
    let t : (x.order == o.0.order) ≡ true = eq-eqb x.order o.0.order (sym o.1.1) in
    cc)
    in
    and_from (not (on (orders (firsts (x.order ∷ seen) xs)) x.order)) (is_distinct (orders (firsts (x.order ∷ seen) xs))) (not_from_false (on (orders (firsts (x.order ∷ seen) xs)) x.order) off) ih2

pub firsts_distinct : (seen : List ℕ) (xs : List Chain) → is_distinct (orders (firsts seen xs)) ≡ true
firsts_distinct seen [] = refl
firsts_distinct seen (x ∷ xs) = firsts_distinct_more seen x xs (on seen x.order) (firsts_distinct seen xs) (firsts_distinct (x.order ∷ seen) xs)

-- No order is accepted twice.
pub accepted_distinct : (n : ℕ) (S : Deliveries) (p r : ℕ) → is_distinct (accepted n S r p) ≡ true
unfolding accepted
accepted_distinct n S p zero = refl
accepted_distinct n S p (suc r) = distinct_append (accepted n S r p) (orders (added n S r p)) (accepted_distinct n S p r) (firsts_distinct (accepted n S r p) (counted n S (suc r) p)) (λ v i.
    false_from_ne_true (on (orders (added n S r p)) v) (λ k.
    let o = orders_out (added n S r p) v k in
    let f = (firsts_out (accepted n S r p) (counted n S (suc r) p) o.0 o.1.0).1 in
    let f' : on (accepted n S r p) v ≡ false = rw o.1.1 at f in
    cc))

pub decided_one : (xs : List ℕ) (v : ℕ) → is_distinct xs ≡ true → on xs v ≡ true → ((w : ℕ) → on xs w ≡ true → w ≡ v) → decided xs ≡ v
decided_one [] v d i only = cc
decided_one (x ∷ []) v d i only = only x (head_on x [])
decided_one (x ∷ y ∷ ys) v d i only =
    absurd (
    let a : x ≡ v = only x (head_on x (y ∷ ys)) in
    let b : y ≡ v = only y (or_right (x == y) (on (y ∷ ys) y) (head_on y ys)) in
    let off = not-true (on (y ∷ ys) x) (and_parts (not (on (y ∷ ys) x)) (is_distinct (y ∷ ys)) d).0 in
    let t : (y == x) ≡ true = eq-eqb y x (b ∙ sym a) in
    let f = (or_parts (y == x) (on ys x) off).0 in
    cc)

only_of : (x w : ℕ) → on (x ∷ []) w ≡ true → w ≡ x
only_of x w i = elim (or_cases (x == w) false i) [ inl h ↦ sym (eqb-true x w h) | inr none ↦ absurd cc ]

-- The same orders lead to the same decision.
pub decided_same : (xs ys : List ℕ) → is_distinct xs ≡ true → is_distinct ys ≡ true → ((v : ℕ) → on xs v ≡ true → on ys v ≡ true) → ((v : ℕ) → on ys v ≡ true → on xs v ≡ true) → decided xs ≡ decided ys
decided_same [] [] a b to back = refl
decided_same [] (y ∷ ys) a b to back = absurd (let h : on [] y ≡ true = back y (head_on y ys) in cc)
decided_same (x ∷ []) ys a b to back = sym (decided_one ys x b (to x (head_on x [])) (λ w i. only_of x w (back w i)))
decided_same (x ∷ y ∷ xs) [] a b to back = absurd (let h : on [] x ≡ true = to x (head_on x (y ∷ xs)) in cc)
decided_same (x ∷ y ∷ xs) (z ∷ []) a b to back =
    decided_one (x ∷ y ∷ xs) z a (back z (head_on z [])) (λ w i. only_of z w (to w i))
decided_same (x ∷ y ∷ xs) (z ∷ w ∷ ys) a b to back = refl
