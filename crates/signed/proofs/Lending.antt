-- Chains with their receivers, and which of them a general receives.
use Rattle.std.proofs.Common.{◌≡◌, ℕ, ◌+◌, ◌<◌, Bool, true, false, cond, List, [], ◌∷◌, ◌++◌, map, length, get_or, take, refl, sym, ap, ◌∙◌, arith, inl, inr, append-nil}
use Rattle.std.specs.Prelude.{filter, flat_map, ◌==◌}
use Rattle.std.specs.Int.{bit_at}
use Rattle.std.proofs.lemmas.Bool.{cases_Bool, false_from_ne_true}
use Rattle.std.proofs.lemmas.List.{take_more, append_assoc}
use Rattle.std.proofs.lemmas.List.Concat.{flat_map-append}
use Rattle.label.specs.Labels.{on, generals}
use Rattle.label.proofs.Counting.{range-on, on-filter}
use Rattle.signed.specs.Chains.{Chain}
use Rattle.signed.specs.Entries.{Dispatch, received}
use Rattle.signed.specs.Sending.{named, dispatch_of, received_in}
use Rattle.signed.proofs.Dispatching.{filter_on}

on_named : (n bits g : ℕ) → g < n → on (filter (λ j. bit_at bits j == 1) (generals n)) g ≡ (bit_at bits g == 1)
on_named n bits g below = elim (cases_Bool (bit_at bits g == 1)) [
  | inl set ↦ filter_on (λ j. bit_at bits j == 1) (generals n) g set (range-on 0 n g (omega arith) (omega arith)) ∙ sym set
  | inr clear ↦ false_from_ne_true (on (filter (λ j. bit_at bits j == 1) (generals n)) g) (λ h. let set = (on-filter (λ j. bit_at bits j == 1) (generals n) g h).1 in cc) ∙ sym clear
]

-- A general is a receiver exactly if his bit is set.
pub named_is : (bits g : ℕ) → g < 13 → on (named bits) g ≡ (bit_at bits g == 1)
named_is bits g below = on_named 16 bits g (omega arith)

-- Returns the chain if `p` is among its receivers, otherwise nothing.
abbrev pub came_of : ℕ → Chain × ℕ → List Chain
came_of p x = cond (bit_at x.1 p == 1) (x.0 ∷ []) []

came_first : (p : ℕ) (x : Chain × ℕ) (xs : List (Chain × ℕ)) → received p (map dispatch_of xs) ≡ flat_map (came_of p) xs → (a b : Bool) → a ≡ b →
    map (λ (z : Dispatch). z.chain) (cond a (dispatch_of x ∷ filter (λ z. on z.receivers p) (map dispatch_of xs)) (filter (λ z. on z.receivers p) (map dispatch_of xs))) ≡ cond b (x.0 ∷ []) [] ++ flat_map (came_of p) xs
came_first p x xs ih true true e = ap (λ zs. x.0 ∷ zs) ih
came_first p x xs ih false false e = ih
came_first p x xs ih true false e = absurd cc
came_first p x xs ih false true e = absurd cc

pub received_is : (p : ℕ) (xs : List (Chain × ℕ)) → p < 13 → received p (map dispatch_of xs) ≡ flat_map (came_of p) xs
received_is p [] below = refl
received_is p (x ∷ xs) below = came_first p x xs (received_is p xs below) (on (named x.1) p) (bit_at x.1 p == 1) (named_is x.1 p below)

-- One more piece of a joined list.
pub flat_more : {X A : Type 0} (f : X → List A) (xs : List X) (i : ℕ) (d : X) → i < length xs → flat_map f (take (i + 1) xs) ≡ flat_map f (take i xs) ++ f (get_or xs i d)
flat_more f xs i d inside =
    ap (flat_map f) (take_more xs i d inside) ∙ (flat_map-append f (take i xs) (get_or xs i d ∷ []) ∙ ap (λ ys. flat_map f (take i xs) ++ ys) (append-nil (f (get_or xs i d))))

-- One more of the chains that a general sent is considered.
pub received_more : (p : ℕ) (xs : List (Chain × ℕ)) (i : ℕ) (d : Chain × ℕ) → p < 13 → i < length xs →
    received p (map dispatch_of (take (i + 1) xs)) ≡ received p (map dispatch_of (take i xs)) ++ came_of p (get_or xs i d)
received_more p xs i d below inside =
    received_is p (take (i + 1) xs) below ∙ (flat_more (came_of p) xs i d inside ∙ ap (λ ys. ys ++ came_of p (get_or xs i d)) (sym (received_is p (take i xs) below)))

-- One more of the generals who sent in a round is considered, and one more round.
pub received_in_more : (p : ℕ) (row : List (List Dispatch)) (i : ℕ) (d : List Dispatch) → i < length row →
    received_in p (take (i + 1) row) ≡ received_in p (take i row) ++ received p (get_or row i d)
received_in_more p row i d inside = flat_more (received p) row i d inside

-- One more chain is received by `p`, or is not.
pub one_came : (p : ℕ) (start now : List Chain) (xs : List (Chain × ℕ)) (i : ℕ) (x : Chain × ℕ) → p < 13 → i < length xs → x ≡ get_or xs i x →
    now ≡ start ++ received p (map dispatch_of (take i xs)) → now ++ came_of p x ≡ start ++ received p (map dispatch_of (take (i + 1) xs))
one_came p start now xs i x below inside is h =
    ap (λ ys. ys ++ came_of p x) h
    ∙ (append_assoc start (received p (map dispatch_of (take i xs))) (came_of p x)
    ∙ ap (λ ys. start ++ ys) (ap (λ (y : Chain × ℕ). received p (map dispatch_of (take i xs)) ++ came_of p y) is ∙ sym (received_more p xs i x below inside)))

pub came_then : (p : ℕ) (x : Chain × ℕ) → (bit_at x.1 p == 1) ≡ true → came_of p x ≡ x.0 ∷ []
came_then p x e = ap (λ b. cond b (x.0 ∷ []) []) e

pub came_else : (p : ℕ) (x : Chain × ℕ) → (bit_at x.1 p == 1) ≡ false → came_of p x ≡ []
came_else p x e = ap (λ b. cond b (x.0 ∷ []) []) e
