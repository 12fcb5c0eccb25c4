-- The orders that a general accepts, one chain after another, and the first eight of them.
use Rattle.std.proofs.Common.{◌≡◌, ℕ, zero, suc, ◌+◌, ◌<◌, Bool, true, false, cond, List, [], ◌∷◌, ◌++◌, map, length, get_or, take, refl, sym, ap, ◌∙◌, arith, append-nil, append_assoc}
use Rattle.std.specs.Prelude.{filter, flat_map, ◌==◌, ◌||◌}
use Rattle.std.specs.Int.{bit_at}
use Rattle.std.proofs.lemmas.List.{same_lists}
use Rattle.std.proofs.lemmas.List.Folds.{flat_map-map}
use Rattle.std.proofs.lemmas.List.FromFn.{get_or-map-range_with_len, length-map-range_with_len}
use Rattle.label.specs.Labels.{on, generals}
use Rattle.label.proofs.Counting.{on-push}
use Rattle.signed.specs.Chains.{Chain, orders}
use Rattle.signed.specs.Accepted.{Deliveries, came, counts, firsts, accepted}
use Rattle.signed.specs.Entries.{Dispatch, received}
use Rattle.signed.specs.Sent.{Sent, delivered}
use Rattle.signed.specs.Sending.{added_also, added_by, dispatch_of, received_in}
use Rattle.signed.proofs.Lending.{came_of, came_then, came_else, received_more, received_in_more}

-- The chains of two lists are considered one after another.
pub added_by-append : (k p : ℕ) (seen : List ℕ) (xs ys : List Chain) → added_by k p seen (xs ++ ys) ≡ added_by k p (added_by k p seen xs) ys
added_by-append k p seen [] ys = refl
added_by-append k p seen (x ∷ xs) ys = added_by-append k p (cond (counts k p x) (added_also seen x.order) seen) xs ys

firsts_alike_more : (s t : List ℕ) (x : Chain) (xs : List Chain) → firsts s xs ≡ firsts t xs → firsts (x.order ∷ s) xs ≡ firsts (x.order ∷ t) xs → (a b : Bool) → a ≡ b →
    cond a (firsts s xs) (x ∷ firsts (x.order ∷ s) xs) ≡ cond b (firsts t xs) (x ∷ firsts (x.order ∷ t) xs)
firsts_alike_more s t x xs old new true true e = old
firsts_alike_more s t x xs old new false false e = ap (λ ys. x ∷ ys) new
firsts_alike_more s t x xs old new true false e = absurd cc
firsts_alike_more s t x xs old new false true e = absurd cc

-- Which chains are the first with a new order depends only on which orders are known, not on their sequence.
pub firsts_alike : (s t : List ℕ) (xs : List Chain) → ((v : ℕ) → on s v ≡ on t v) → firsts s xs ≡ firsts t xs
firsts_alike s t [] h = refl
firsts_alike s t (x ∷ xs) h =
    firsts_alike_more s t x xs (firsts_alike s t xs h) (firsts_alike (x.order ∷ s) (x.order ∷ t) xs (λ v. ap (λ (b : Bool). (x.order == v) || b) (h v))) (on s x.order) (on t x.order) (h x.order)

pub at_the_end : (seen : List ℕ) (o v : ℕ) → on (seen ++ o ∷ []) v ≡ on (o ∷ seen) v
at_the_end seen o v = on-push seen o v ∙ by (on seen v) (o == v)
  where
    by : (a b : Bool) → (a || b) ≡ (b || a)
    by true true = refl
    by true false = refl
    by false true = refl
    by false false = refl

added_first : (k p : ℕ) (seen : List ℕ) (x : Chain) (xs : List Chain) → ((s : List ℕ) → added_by k p s xs ≡ s ++ orders (firsts s (filter (counts k p) xs))) → (a b : Bool) → on seen x.order ≡ b →
    added_by k p (cond a (cond b seen (seen ++ x.order ∷ [])) seen) xs ≡ seen ++ orders (firsts seen (cond a (x ∷ filter (counts k p) xs) (filter (counts k p) xs)))
added_first k p seen x xs ih false b e = ih seen
added_first k p seen x xs ih true true e =
    ih seen ∙ ap (λ (c : Bool). seen ++ orders (cond c (firsts seen (filter (counts k p) xs)) (x ∷ firsts (x.order ∷ seen) (filter (counts k p) xs)))) (sym e)
added_first k p seen x xs ih true false e =
    ih (seen ++ x.order ∷ [])
    ∙ (append_assoc seen (x.order ∷ []) (orders (firsts (seen ++ x.order ∷ []) (filter (counts k p) xs)))
    ∙ (ap (λ (ys : List Chain). seen ++ x.order ∷ orders ys) (firsts_alike (seen ++ x.order ∷ []) (x.order ∷ seen) (filter (counts k p) xs) (λ v. at_the_end seen x.order v))
    ∙ ap (λ (c : Bool). seen ++ orders (cond c (firsts seen (filter (counts k p) xs)) (x ∷ firsts (x.order ∷ seen) (filter (counts k p) xs)))) (sym e)))

-- Considering chains one after another adds the orders of the first chains that count.
pub added_by_is : (k p : ℕ) (seen : List ℕ) (xs : List Chain) → added_by k p seen xs ≡ seen ++ orders (firsts seen (filter (counts k p) xs))
added_by_is k p seen [] = sym (append-nil seen)
added_by_is k p seen (x ∷ xs) = added_first k p seen x xs (λ s. added_by_is k p s xs) (counts k p x) (on seen x.order) refl

pub accepted_more : (n : ℕ) (S : Deliveries) (r p : ℕ) → accepted n S (suc r) p ≡ added_by (suc r) p (accepted n S r p) (came n S (suc r) p)
unfolding accepted
accepted_more n S r p = sym (added_by_is (suc r) p (accepted n S r p) (came n S (suc r) p))

pub accepted_none : (n : ℕ) (S : Deliveries) (p : ℕ) → accepted n S 0 p ≡ []
unfolding accepted
accepted_none n S p = refl

-- A list consists of its elements by index.
places_of : {X : Type 0} (xs : List X) (d : X) → map (λ i. get_or xs i d) (generals (length xs)) ≡ xs
places_of xs d =
    same_lists (map (λ i. get_or xs i d) (generals (length xs))) xs (length-map-range_with_len (λ i. get_or xs i d) 0 (length xs))
    (λ k e inside. let l : k < length xs = (let s : length (map (λ i. get_or xs i d) (generals (length xs))) ≡ length xs = length-map-range_with_len (λ i. get_or xs i d) 0 (length xs) in omega arith) in
    get_or-map-range_with_len (λ i. get_or xs i d) 0 (length xs) k k e l (omega arith) ∙ default xs k d e l)
  where
    default : {X : Type 0} (xs : List X) (i : ℕ) (d e : X) → i < length xs → get_or xs i d ≡ get_or xs i e
    default [] i d e l = absurd (omega arith)
    default (x ∷ xs) zero d e l = refl
    default (x ∷ xs) (suc i) d e l = default xs i d e (omega arith)

-- A general receives in a round the chains from all who sent in it.
pub came_is : (n : ℕ) (sent : Sent) (r p : ℕ) → length (get_or sent r []) ≡ n → came n (delivered sent) (suc r) p ≡ received_in p (get_or sent r [])
came_is n sent r p rows =
    ap (λ (m : ℕ). flat_map (λ g. received p (get_or (get_or sent r []) g [])) (generals m)) (sym rows)
    ∙ (sym (flat_map-map (received p) (λ g. get_or (get_or sent r []) g []) (generals (length (get_or sent r []))))
    ∙ ap (flat_map (received p)) (places_of (get_or sent r []) []))

-- One more round is considered.
pub accepted_by : (n : ℕ) (sent : Sent) (r p : ℕ) → length (get_or sent r []) ≡ n →
    accepted n (delivered sent) (r + 1) p ≡ added_by (r + 1) p (accepted n (delivered sent) r p) (received_in p (get_or sent r []))
accepted_by n sent r p rows =
    let next : r + 1 ≡ suc r = omega arith in
    ap (λ (k : ℕ). accepted n (delivered sent) k p) next
    ∙ (accepted_more n (delivered sent) r p
    ∙ (ap (added_by (suc r) p (accepted n (delivered sent) r p)) (came_is n sent r p rows)
    ∙ ap (λ (k : ℕ). added_by k p (accepted n (delivered sent) r p) (received_in p (get_or sent r []))) (sym next)))

-- One more of the chains that a general sent is considered.
pub one_added : (k p : ℕ) (seen : List ℕ) (xs : List (Chain × ℕ)) (i : ℕ) (x : Chain × ℕ) → p < 13 → i < length xs → x ≡ get_or xs i x →
    added_by k p seen (received p (map dispatch_of (take (i + 1) xs))) ≡ added_by k p (added_by k p seen (received p (map dispatch_of (take i xs)))) (came_of p x)
one_added k p seen xs i x below inside is =
    ap (added_by k p seen) (received_more p xs i x below inside)
    ∙ (added_by-append k p seen (received p (map dispatch_of (take i xs))) (came_of p (get_or xs i x))
    ∙ ap (λ (y : Chain × ℕ). added_by k p (added_by k p seen (received p (map dispatch_of (take i xs)))) (came_of p y)) (sym is))

-- A chain is received and counts, is received and does not count, or is not received.
pub came_counts : (k p : ℕ) (seen : List ℕ) (x : Chain × ℕ) → (bit_at x.1 p == 1) ≡ true → counts k p x.0 ≡ true → added_by k p seen (came_of p x) ≡ added_also seen x.0.order
came_counts k p seen x e f = ap (added_by k p seen) (came_then p x e) ∙ ap (λ (b : Bool). cond b (added_also seen x.0.order) seen) f

pub came_idle : (k p : ℕ) (seen : List ℕ) (x : Chain × ℕ) → (bit_at x.1 p == 1) ≡ true → counts k p x.0 ≡ false → added_by k p seen (came_of p x) ≡ seen
came_idle k p seen x e f = ap (added_by k p seen) (came_then p x e) ∙ ap (λ (b : Bool). cond b (added_also seen x.0.order) seen) f

pub came_not : (k p : ℕ) (seen : List ℕ) (x : Chain × ℕ) → (bit_at x.1 p == 1) ≡ false → added_by k p seen (came_of p x) ≡ seen
came_not k p seen x e = ap (added_by k p seen) (came_else p x e)

-- One more of the generals who sent is considered.
pub one_sent : (k p : ℕ) (seen : List ℕ) (row : List (List Dispatch)) (i : ℕ) (x : List Dispatch) → i < length row → x ≡ get_or row i x →
    added_by k p seen (received_in p (take (i + 1) row)) ≡ added_by k p (added_by k p seen (received_in p (take i row))) (received p x)
one_sent k p seen row i x inside is =
    ap (added_by k p seen) (received_in_more p row i x inside)
    ∙ (added_by-append k p seen (received_in p (take i row)) (received p (get_or row i x))
    ∙ ap (λ (y : List Dispatch). added_by k p (added_by k p seen (received_in p (take i row))) (received p y)) (sym is))
