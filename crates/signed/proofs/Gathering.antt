-- The chains that bring a general his orders, one after another.
use Rattle.std.proofs.Common.{◌≡◌, ◌≢◌, ℕ, zero, suc, ◌+◌, ◌<◌, Bool, true, false, cond, List, [], ◌∷◌, ◌++◌, map, length, get_or, take, refl, sym, ap, ◌∙◌, arith, append-nil, append_assoc}
use Rattle.std.specs.Prelude.{filter, flat_map, ◌==◌}
use Rattle.std.specs.Int.{bit_at}
use Rattle.std.specs.Borrow.{Bor}
use Rattle.std.proofs.lemmas.Bool.{cond-false, cond-true, eq-eqb, ne_eqb, or_from, or_left, or_right}
use Rattle.std.proofs.lemmas.List.{map-append, take_more}
use Rattle.std.proofs.lemmas.List.Concat.{flat_map-append}
use Rattle.label.specs.Labels.{on, generals}
use Rattle.label.proofs.Counting.{on-push}
use Rattle.book.proofs.Gathering.{range_more}
use Rattle.signed.specs.Chains.{Chain, orders}
use Rattle.signed.specs.Accepted.{Deliveries, came, counts, firsts, accepted, added}
use Rattle.signed.specs.Entries.{received}
use Rattle.signed.specs.Explained.{bringing}
use Rattle.signed.specs.Gathered.{gathered, gathered_also}
use Rattle.signed.specs.Sending.{dispatch_of, lent}
use Rattle.signed.proofs.Adding.{at_the_end, firsts_alike}
use Rattle.signed.proofs.Lending.{came_of, came_then, came_else, received_more}

pub gathered-append : (k p : ℕ) (cs xs ys : List Chain) → gathered k p cs (xs ++ ys) ≡ gathered k p (gathered k p cs xs) ys
gathered-append k p cs [] ys = refl
gathered-append k p cs (x ∷ xs) ys = gathered-append k p (cond (counts k p x) (gathered_also cs x) cs) xs ys

orders_push : (cs : List Chain) (x : Chain) → orders (cs ++ x ∷ []) ≡ orders cs ++ x.order ∷ []
orders_push cs x = map-append (λ (ch : Chain). ch.order) cs (x ∷ [])

gathered_first : (k p : ℕ) (cs : List Chain) (x : Chain) (xs : List Chain) → ((ds : List Chain) → gathered k p ds xs ≡ ds ++ firsts (orders ds) (filter (counts k p) xs)) → (a b : Bool) → on (orders cs) x.order ≡ b →
    gathered k p (cond a (cond b cs (cs ++ x ∷ [])) cs) xs ≡ cs ++ firsts (orders cs) (cond a (x ∷ filter (counts k p) xs) (filter (counts k p) xs))
gathered_first k p cs x xs ih false b e = ih cs
gathered_first k p cs x xs ih true true e =
    ih cs ∙ ap (λ (c : Bool). cs ++ cond c (firsts (orders cs) (filter (counts k p) xs)) (x ∷ firsts (x.order ∷ orders cs) (filter (counts k p) xs))) (sym e)
gathered_first k p cs x xs ih true false e =
    ih (cs ++ x ∷ [])
    ∙ (append_assoc cs (x ∷ []) (firsts (orders (cs ++ x ∷ [])) (filter (counts k p) xs))
    ∙ (ap (λ (ys : List Chain). cs ++ x ∷ ys)
    (ap (λ (os : List ℕ). firsts os (filter (counts k p) xs)) (orders_push cs x) ∙ firsts_alike (orders cs ++ x.order ∷ []) (x.order ∷ orders cs) (filter (counts k p) xs) (λ v. at_the_end (orders cs) x.order v))
    ∙ ap (λ (c : Bool). cs ++ cond c (firsts (orders cs) (filter (counts k p) xs)) (x ∷ firsts (x.order ∷ orders cs) (filter (counts k p) xs))) (sym e)))

-- Considering chains one after another adds the first chains that count.
pub gathered_is : (k p : ℕ) (cs xs : List Chain) → gathered k p cs xs ≡ cs ++ firsts (orders cs) (filter (counts k p) xs)
gathered_is k p cs [] = sym (append-nil cs)
gathered_is k p cs (x ∷ xs) = gathered_first k p cs x xs (λ ds. gathered_is k p ds xs) (counts k p x) (on (orders cs) x.order) refl

-- The orders that these chains bring are the accepted ones.
pub bringing_orders : (n : ℕ) (S : Deliveries) (r p : ℕ) → orders (bringing n S r p) ≡ accepted n S r p
unfolding bringing accepted
bringing_orders n S zero p = refl
bringing_orders n S (suc r) p =
    map-append (λ (ch : Chain). ch.order) (bringing n S r p) (added n S r p) ∙ ap (λ (os : List ℕ). os ++ orders (added n S r p)) (bringing_orders n S r p)

pub bringing_none : (n : ℕ) (S : Deliveries) (p : ℕ) → bringing n S 0 p ≡ []
unfolding bringing
bringing_none n S p = refl

-- One more round is considered.
pub bringing_more : (n : ℕ) (S : Deliveries) (r p : ℕ) → bringing n S (suc r) p ≡ gathered (suc r) p (bringing n S r p) (came n S (suc r) p)
unfolding bringing
bringing_more n S r p =
    ap (λ (os : List ℕ). bringing n S r p ++ firsts os (filter (counts (suc r) p) (came n S (suc r) p))) (sym (bringing_orders n S r p))
    ∙ sym (gathered_is (suc r) p (bringing n S r p) (came n S (suc r) p))

-- One more of the chains that a general sent is considered.
pub one_gathered : (k p : ℕ) (cs : List Chain) (xs : List (Chain × ℕ)) (i : ℕ) (x : Chain × ℕ) → p < 13 → i < length xs → x ≡ get_or xs i x →
    gathered k p cs (received p (map dispatch_of (take (i + 1) xs))) ≡ gathered k p (gathered k p cs (received p (map dispatch_of (take i xs)))) (came_of p x)
one_gathered k p cs xs i x below inside is =
    ap (gathered k p cs) (received_more p xs i x below inside)
    ∙ (gathered-append k p cs (received p (map dispatch_of (take i xs))) (came_of p (get_or xs i x))
    ∙ ap (λ (y : Chain × ℕ). gathered k p (gathered k p cs (received p (map dispatch_of (take i xs)))) (came_of p y)) (sym is))

-- A chain is received and counts, is received and does not count, or is not received.
pub came_counts : (k p : ℕ) (cs : List Chain) (x : Chain × ℕ) → (bit_at x.1 p == 1) ≡ true → counts k p x.0 ≡ true → gathered k p cs (came_of p x) ≡ gathered_also cs x.0
came_counts k p cs x e f = ap (gathered k p cs) (came_then p x e) ∙ ap (λ (b : Bool). cond b (gathered_also cs x.0) cs) f

pub came_idle : (k p : ℕ) (cs : List Chain) (x : Chain × ℕ) → (bit_at x.1 p == 1) ≡ true → counts k p x.0 ≡ false → gathered k p cs (came_of p x) ≡ cs
came_idle k p cs x e f = ap (gathered k p cs) (came_then p x e) ∙ ap (λ (b : Bool). cond b (gathered_also cs x.0) cs) f

pub came_not : (k p : ℕ) (cs : List Chain) (x : Chain × ℕ) → (bit_at x.1 p == 1) ≡ false → gathered k p cs (came_of p x) ≡ cs
came_not k p cs x e = ap (gathered k p cs) (came_else p x e)

-- One more of the generals who sent in a round is considered.
pub came_more : (j : ℕ) (S : Deliveries) (k p : ℕ) → came (j + 1) S k p ≡ came j S k p ++ S k j p
came_more j S k p =
    ap (flat_map (λ g. S k g p)) (range_more j) ∙ (flat_map-append (λ g. S k g p) (generals j) (j ∷ []) ∙ ap (λ ys. came j S k p ++ ys) (append-nil (S k j p)))

pub gathered_more : (j : ℕ) (S : Deliveries) (k p : ℕ) (cs : List Chain) → gathered k p cs (came (j + 1) S k p) ≡ gathered k p (gathered k p cs (came j S k p)) (S k j p)
gathered_more j S k p cs = ap (gathered k p cs) (came_more j S k p) ∙ gathered-append k p cs (came j S k p) (S k j p)

-- One more borrowed chain is appended.
pub also_pushed : (cs : List (Bor Chain)) (b : Bor Chain) → on (orders (lent cs)) b.now.order ≡ false → lent (cs ++ b ∷ []) ≡ gathered_also (lent cs) b.now
also_pushed cs b new = map-append (λ (c : Bor Chain). c.now) cs (b ∷ []) ∙ sym (cond-false (on (orders (lent cs)) b.now.order) (lent cs) (lent cs ++ b.now ∷ []) new)

-- It is not appended if its order is already there.
pub also_kept : (cs : List (Bor Chain)) (x : Chain) → on (orders (lent cs)) x.order ≡ true → lent cs ≡ gathered_also (lent cs) x
also_kept cs x there = sym (cond-true (on (orders (lent cs)) x.order) (lent cs) (lent cs ++ x ∷ []) there)

-- A chain has the order.
pub one_brings : (xs : List (Bor Chain)) (i v : ℕ) (b : Bor Chain) → i < length xs → b ≡ get_or xs i b → b.now.order ≡ v → on (orders (lent xs)) v ≡ true
one_brings [] i v b l at e = absurd (omega arith)
one_brings (x ∷ xs) zero v b l at e = or_left (x.now.order == v) (on (orders (lent xs)) v) (eq-eqb x.now.order v (ap (λ (c : Bor Chain). c.now.order) (sym at) ∙ e))
one_brings (x ∷ xs) (suc i) v b l at e = or_right (x.now.order == v) (on (orders (lent xs)) v) (one_brings xs i v b (omega arith) at e)

-- No chain so far has the order, and one more does not.
pub none_brings : (xs : List (Bor Chain)) (i v : ℕ) (b : Bor Chain) → i < length xs → b ≡ get_or xs i b → on (orders (lent (take i xs))) v ≡ false → b.now.order ≢ v → on (orders (lent (take (i + 1) xs))) v ≡ false
none_brings xs i v b l at none other =
    ap (λ (ys : List (Bor Chain)). on (orders (lent ys)) v) (take_more xs i b l)
    ∙ (ap (λ (cs : List Chain). on (orders cs) v) (map-append (λ (c : Bor Chain). c.now) (take i xs) (get_or xs i b ∷ []))
    ∙ (ap (λ (os : List ℕ). on os v) (orders_push (lent (take i xs)) (get_or xs i b).now)
    ∙ (on-push (orders (lent (take i xs))) (get_or xs i b).now.order v
    ∙ or_from (on (orders (lent (take i xs))) v) ((get_or xs i b).now.order == v) none (ne_eqb (get_or xs i b).now.order v (λ e. other (ap (λ (c : Bor Chain). c.now.order) at ∙ e))))))
