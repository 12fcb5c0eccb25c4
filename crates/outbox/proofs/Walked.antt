-- All labels of a length, found by extending the commander's label one general at a time.
use Rattle.std.proofs.Common.{ℕ, zero, suc, ◌+◌, ◌-◌, ◌<◌, ◌≤◌, ◌≡◌, ◌≢◌, Bool, true, false, not, cond, ◌||◌, ◌&&◌, List, [], ◌∷◌, ◌++◌, map, length, take, get_or, append_assoc, refl, sym, ap, ◌∙◌, arith}
use Rattle.std.specs.Prelude.{◌==◌, filter, flat_map}
use Rattle.std.proofs.lemmas.List.{append-nil, take_all, take_more}
use Rattle.std.proofs.lemmas.List.Concat.{flat_map_single}
use Rattle.std.proofs.lemmas.List.Folds.{flat_map-map}
use Rattle.std.proofs.lemmas.Grind.{flat_map-append}
use Rattle.std.proofs.lemmas.List.Elements.{filter_agree}
use Rattle.label.specs.declared.shape.Shape.{Shape}
use Rattle.label.specs.Labels.{on, others, generals, labels}
use Rattle.label.specs.Relay.{receivers}
use Rattle.label.proofs.Counting.{on-push}
use Rattle.label.proofs.Below.{turned}
use Rattle.label.proofs.Ranks.{children, labels-next, eqb_sym}
use Rattle.label.proofs.Places.{first_label}
use Rattle.outbox.specs.Rows.{RowOrders, row_for}
use Rattle.outbox.specs.Receivers.{struck, rows_under}

-- Excluding a general twice is the same as excluding him once.
pub others_twice : (n p : ℕ) → others n (p ∷ p ∷ []) ≡ others n (p ∷ [])
others_twice n p = filter_agree (λ x. not (on (p ∷ p ∷ []) x)) (λ x. not (on (p ∷ []) x)) (λ x. ap not (twice (p == x))) (generals n)
  where
    twice : (b : Bool) → (b || (b || false)) ≡ (b || false)
    twice true = refl
    twice false = refl

-- The label is extended by one general.
both : (a b c : Bool) → not ((a || b) || c) ≡ (not (a || c) && not b)
both true b c = refl
both false true true = refl
both false true false = refl
both false false true = refl
both false false false = refl

out : (w : List ℕ) (j p x : ℕ) → not (on ((w ++ j ∷ []) ++ p ∷ []) x) ≡ (not (on (w ++ p ∷ []) x) && not (x == j))
out w j p x = rw (on-push (w ++ j ∷ []) p x, on-push w j x, on-push w p x, eqb_sym x j) (both (on w x) (j == x) (p == x))

struck_more : (w : List ℕ) (j p : ℕ) (xs : List ℕ) → struck j (filter (λ x. not (on (w ++ p ∷ []) x)) xs) ≡ filter (λ x. not (on ((w ++ j ∷ []) ++ p ∷ []) x)) xs
struck_more w j p [] = refl
struck_more w j p (x ∷ xs) =
    let rest : struck j (filter (λ x. not (on (w ++ p ∷ []) x)) xs) ≡ filter (λ x. not (on ((w ++ j ∷ []) ++ p ∷ []) x)) xs = struck_more w j p xs in
    rw (out w j p x, ← rest) (tests (not (on (w ++ p ∷ []) x)) j x (filter (λ x. not (on (w ++ p ∷ []) x)) xs))
  where
    tests : (a : Bool) (j x : ℕ) (ys : List ℕ) → struck j (cond a (x ∷ ys) ys) ≡ cond (a && not (x == j)) (x ∷ struck j ys) (struck j ys)
    tests true j x ys = refl
    tests false j x ys = refl

-- Returns the rows of the labels that extend these labels by `k` generals.
abbrev deep : Shape → ℕ → List (List ℕ) → List RowOrders
deep s k ws = flat_map (λ w. rows_under k (receivers s w)) ws

map_same : (f g : ℕ → List RowOrders) → ((j : ℕ) → f j ≡ g j) → (js : List ℕ) → flat_map f js ≡ flat_map g js
map_same f g h [] = refl
map_same f g h (j ∷ js) = rw (h j, map_same f g h js) refl

under_next : (s : Shape) (k : ℕ) (w : List ℕ) → rows_under (suc k) (receivers s w) ≡ deep s k (children s.generals s.general w)
under_next s k w =
    map_same (λ j. rows_under k (struck j (receivers s w))) (λ j. rows_under k (receivers s (w ++ j ∷ []))) (λ j. ap (rows_under k) (struck_more w j s.general (generals s.generals))) (receivers s w)
    ∙ (ap (flat_map (λ j. rows_under k (receivers s (w ++ j ∷ [])))) (sym (turned s.generals w s.general))
    ∙ sym (flat_map-map (λ v. rows_under k (receivers s v)) (λ j. w ++ j ∷ []) (others s.generals (s.general ∷ w))))

deep_next : (s : Shape) (k : ℕ) (ws : List (List ℕ)) → deep s (suc k) ws ≡ deep s k (flat_map (children s.generals s.general) ws)
deep_next s k [] = refl
deep_next s k (w ∷ ws) =
    let rest : deep s (suc k) ws ≡ deep s k (flat_map (children s.generals s.general) ws) = deep_next s k ws in
    ap (λ xs. xs ++ deep s (suc k) ws) (under_next s k w)
    ∙ (ap (λ xs. deep s k (children s.generals s.general w) ++ xs) rest
    ∙ sym (flat_map-append (λ v. rows_under k (receivers s v)) (children s.generals s.general w) (flat_map (children s.generals s.general) ws)))

deep_all : (s : Shape) (m k : ℕ) → deep s k (labels s.generals s.commander s.general (suc m)) ≡ deep s (m + k) (labels s.generals s.commander s.general 1)
deep_all s zero k = let e : k ≡ 0 + k = omega arith in ap (λ i. deep s i (labels s.generals s.commander s.general 1)) e
deep_all s (suc m) k =
    let e : m + suc k ≡ suc m + k = omega arith in
    ap (deep s k) (labels-next s.generals s.commander s.general m)
    ∙ (sym (deep_next s k (labels s.generals s.commander s.general (suc m)))
    ∙ (deep_all s m (suc k) ∙ ap (λ i. deep s i (labels s.generals s.commander s.general 1)) e))

-- The labels found in this way are all labels of the length.
pub walked : (s : Shape) (m : ℕ) → s.general ≢ s.commander → rows_under m (others s.generals (s.commander ∷ s.general ∷ [])) ≡ map (row_for s) (labels s.generals s.commander s.general (suc m))
walked s m ne =
    let e : m + 0 ≡ m = omega arith in
    sym (sym (flat_map_single (row_for s) (labels s.generals s.commander s.general (suc m)))
    ∙ (deep_all s m 0
    ∙ (ap (λ i. deep s i (labels s.generals s.commander s.general 1)) e
    ∙ (ap (deep s m) (first_label s.generals s.commander s.general ne)
    ∙ append-nil (rows_under m (others s.generals (s.commander ∷ s.general ∷ [])))))))

-- Labels are extended by one general, and then by the others.
under_more : (more : ℕ) (names : List ℕ) → more ≢ 0 → flat_map (λ j. rows_under (more - 1) (struck j names)) names ≡ rows_under more names
under_more zero names ne = absurd (ne refl)
under_more (suc m) names ne = let e : suc m - 1 ≡ m = omega arith in ap (λ (k : ℕ). flat_map (λ j. rows_under k (struck j names)) names) e

pub under_all : (more place : ℕ) (names : List ℕ) → more ≢ 0 → length names ≤ place → flat_map (λ j. rows_under (more - 1) (struck j names)) (take place names) ≡ rows_under more names
under_all more place names ne l = ap (flat_map (λ j. rows_under (more - 1) (struck j names))) (take_all place names l) ∙ under_more more names ne

pub one_under : (m i : ℕ) (names lent heard : List ℕ) (first before new : List RowOrders) → lent ≡ names → i < length lent → before ≡ first ++ flat_map (λ j. rows_under m (struck j names)) (take i names) → heard ≡ struck (get_or lent i 0) names → new ≡ before ++ rows_under m heard
    → new ≡ first ++ flat_map (λ j. rows_under m (struck j names)) (take (i + 1) names)
one_under m i names lent heard first before new same l so hears is =
    let f : ℕ → List RowOrders = λ j. rows_under m (struck j names) in
    let x : ℕ = get_or names i 0 in
    let inside : i < length names = (let e = ap length same in omega arith) in
    is
    ∙ (ap (λ (rows : List RowOrders). rows ++ rows_under m heard) so
    ∙ (ap (λ (ns : List ℕ). (first ++ flat_map f (take i names)) ++ rows_under m ns) (hears ∙ ap (λ (ns : List ℕ). struck (get_or ns i 0) names) same)
    ∙ (append_assoc first (flat_map f (take i names)) (f x)
    ∙ ap (λ (rows : List RowOrders). first ++ rows) (ap (λ (rows : List RowOrders). flat_map f (take i names) ++ rows) (sym (append-nil (f x))) ∙ (sym (flat_map-append f (take i names) (x ∷ [])) ∙ ap (flat_map f) (sym (take_more names i 0 inside)))))))
