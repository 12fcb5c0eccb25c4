-- How many orders a helper sets: at most one to each receiver in a row, in few rows.
use Rattle.std.proofs.Common.{ℕ, zero, suc, ◌+◌, ◌-◌, ◌*◌, ◌<◌, ◌≤◌, ◌≡◌, ◌≢◌, Bool, true, false, not, cond, ◌||◌, ◌&&◌, List, [], ◌∷◌, ◌++◌, map, length, refl, sym, ap, subst, ◌∙◌, arith, inl, inr, Some, None}
use Rattle.std.specs.Prelude.{◌==◌, if◌then◌else◌, count_by, sum_by, is_some, slice_get}
use Rattle.std.specs.List.{enumerate_from}
use Rattle.std.proofs.lemmas.Bool.{cases_eq, false≢true, and_parts, not-true, eqb-true, ne_eqb}
use Rattle.std.proofs.lemmas.Bool.Decides.{eqb_tells}
use Rattle.std.proofs.lemmas.List.Sums.{sum_by-cons}
use Rattle.label.specs.declared.shape.Shape.{Shape}
use Rattle.semantics.specs.Relay.{IsRelay, Kind, Oral, Signed, Relay, labels_told, relayed}
use Rattle.label.specs.Labels.{on, is_distinct, labels, others}
use Rattle.label.specs.Relay.{IsShape, relay, receivers}
use Rattle.label.proofs.Counting.{others-distinct}
use Rattle.label.proofs.Bounds.{labels-few, most, others_length_more}
use Rattle.semantics.specs.Limits.{most_labels}
use Rattle.semantics.specs.Outbox.{RelaysAreFew, FewPlacesAreSet, RangesAreKept, Place, Choice, places_set, at_place, along_row, at_receiver, as_taken, taken_value}

-- The places of a row, from a number on.
abbrev pub row_from : ℕ → ℕ → List ℕ → List Place
row_from k b ns = map (λ p. record { rank = k; number = p.0; receiver = p.1 }) (enumerate_from b ns)

abbrev pub sets : Choice → List Place → ℕ
sets choice row = count_by (λ place. is_some (choice place)) row

pub sets-cons : (choice : Choice) (p : Place) (row : List Place) → sets choice (p ∷ row) ≡ cond (is_some (choice p)) 1 0 + sets choice row
sets-cons choice p row = sum_by-cons (λ place. cond (is_some (choice place)) 1 0) p row

pub row_none : (choice : Choice) (k : ℕ) → ((b n : ℕ) → is_some (choice (record { rank = k; number = b; receiver = n })) ≡ false) → (b : ℕ) (ns : List ℕ) → sets choice (row_from k b ns) ≡ 0
row_none choice k misses b [] = refl
row_none choice k misses b (n ∷ ns) =
    let here : cond {A = ℕ} (is_some (choice (record { rank = k; number = b; receiver = n }))) 1 0 ≡ 0 = ap (λ t. cond {A = ℕ} t 1 0) (misses b n) in
    let rest : sets choice (row_from k (b + 1) ns) ≡ 0 = row_none choice k misses (b + 1) ns in
    rw (sets-cons choice (record { rank = k; number = b; receiver = n }) (row_from k (b + 1) ns)) (omega arith)

-- If orders are chosen by the receiver, at most one is set in a row.
abbrev GoesBy : Choice → ℕ → Type 0
GoesBy choice receiver = (p : Place) → cond (is_some (choice p)) 1 0 ≤ cond (p.receiver == receiver) 1 0

at_most_one : (a rest : ℕ) (e o : Bool) → (e ≡ true → o ≡ false) → a ≤ cond e 1 0 → rest ≤ cond o 1 0 → a + rest ≤ cond (e || o) 1 0
at_most_one a rest true true h l m = absurd (false≢true (sym (h refl)))
at_most_one a rest true false h l m = omega arith
at_most_one a rest false true h l m = omega arith
at_most_one a rest false false h l m = omega arith

row_once : (choice : Choice) (receiver : ℕ) → GoesBy choice receiver → (k b : ℕ) (ns : List ℕ) → is_distinct ns ≡ true → sets choice (row_from k b ns) ≤ cond (on ns receiver) 1 0
row_once choice receiver by k b [] d = omega arith
row_once choice receiver by k b (n ∷ ns) d =
    let both = and_parts (not (on ns n)) (is_distinct ns) d in
    let lacks : on ns n ≡ false = not-true (on ns n) both.0 in
    rw (sets-cons choice (record { rank = k; number = b; receiver = n }) (row_from k (b + 1) ns))
    (at_most_one (cond (is_some (choice (record { rank = k; number = b; receiver = n }))) 1 0) (sets choice (row_from k (b + 1) ns)) (n == receiver) (on ns receiver)
    (λ e. ap (on ns) (sym (eqb-true n receiver e)) ∙ lacks)
    (by (record { rank = k; number = b; receiver = n }))
    (row_once choice receiver by k (b + 1) ns both.1))

row_one : (choice : Choice) (receiver : ℕ) → GoesBy choice receiver → (s : Shape) (k : ℕ) (w : List ℕ) → sets choice (row_from k 0 (receivers s w)) ≤ 1
row_one choice receiver by s k w =
    let most_once : sets choice (row_from k 0 (receivers s w)) ≤ cond (on (receivers s w) receiver) 1 0 = row_once choice receiver by k 0 (receivers s w) (others-distinct s.generals (w ++ s.general ∷ [])) in
    let one : cond (on (receivers s w) receiver) 1 0 ≤ 1 = bit (on (receivers s w) receiver) in
    omega arith
  where
    bit : (b : Bool) → cond b 1 0 ≤ 1
    bit true = omega arith
    bit false = omega arith

-- The rows, from a rank on.
abbrev pub rows_from : Shape → ℕ → List (List ℕ) → List (List Place)
rows_from s a ws = map (λ label. row_from label.0 0 (receivers s label.1)) (enumerate_from a ws)

abbrev pub sets_in : Choice → List (List Place) → ℕ
sets_in choice rows = sum_by (λ row. sets choice row) rows

pub sets_in-cons : (choice : Choice) (row : List Place) (rows : List (List Place)) → sets_in choice (row ∷ rows) ≡ sets choice row + sets_in choice rows
sets_in-cons choice row rows = sum_by-cons (λ r. sets choice r) row rows

one_each : (choice : Choice) (s : Shape) → ((k : ℕ) (w : List ℕ) → sets choice (row_from k 0 (receivers s w)) ≤ 1) → (a : ℕ) (ws : List (List ℕ)) → sets_in choice (rows_from s a ws) ≤ length ws
one_each choice s few a [] = omega arith
one_each choice s few a (w ∷ ws) =
    let here : sets choice (row_from a 0 (receivers s w)) ≤ 1 = few a w in
    let rest : sets_in choice (rows_from s (a + 1) ws) ≤ length ws = one_each choice s few (a + 1) ws in
    rw (sets_in-cons choice (row_from a 0 (receivers s w)) (rows_from s (a + 1) ws)) (omega arith)

-- A row has at most one place for each general, so no more orders are set.
row_few : (choice : Choice) (k b : ℕ) (ns : List ℕ) → sets choice (row_from k b ns) ≤ length ns
row_few choice k b [] = omega arith
row_few choice k b (n ∷ ns) =
    let rest : sets choice (row_from k (b + 1) ns) ≤ length ns = row_few choice k (b + 1) ns in
    let here : cond {A = ℕ} (is_some (choice (record { rank = k; number = b; receiver = n }))) 1 0 ≤ 1 = bit (is_some (choice (record { rank = k; number = b; receiver = n }))) in
    rw (sets-cons choice (record { rank = k; number = b; receiver = n }) (row_from k (b + 1) ns)) (omega arith)
  where
    bit : (t : Bool) → cond {A = ℕ} t 1 0 ≤ 1
    bit true = omega arith
    bit false = omega arith

others_few : (n : ℕ) (v : List ℕ) → length (others n v) ≤ n
others_few zero v = omega arith
others_few (suc n) v =
    let next : n + 1 ≡ suc n = omega arith in
    subst (λ (k : ℕ). length (others k v) ≤ k) next (by (on v n) (others_length_more v n) (others_few n v))
  where
    by : (t : Bool) → length (others (n + 1) v) ≡ length (others n v) + cond t 0 1 → length (others n v) ≤ n → length (others (n + 1) v) ≤ n + 1
    by true more few = omega arith
    by false more few = omega arith

rows_few : (choice : Choice) (s : Shape) → IsShape s → (a : ℕ) (ws : List (List ℕ)) → sets_in choice (rows_from s a ws) ≤ 13 * length ws
rows_few choice s is a [] = omega arith
rows_few choice s is a (w ∷ ws) =
    let here : sets choice (row_from a 0 (receivers s w)) ≤ length (receivers s w) = row_few choice a 0 (receivers s w) in
    let long : length (receivers s w) ≤ s.generals = others_few s.generals (w ++ s.general ∷ []) in
    let few : s.generals ≤ 13 = is.few in
    let rest : sets_in choice (rows_from s (a + 1) ws) ≤ 13 * length ws = rows_few choice s is (a + 1) ws in
    rw (sets_in-cons choice (row_from a 0 (receivers s w)) (rows_from s (a + 1) ws)) (omega arith)

-- Orders of one label are set in no other row.
no_row : (choice : Choice) (s : Shape) (label : ℕ) → ((k : ℕ) (w : List ℕ) → k ≢ label → sets choice (row_from k 0 (receivers s w)) ≡ 0) → (a : ℕ) (ws : List (List ℕ)) → label < a → sets_in choice (rows_from s a ws) ≡ 0
no_row choice s label misses a [] l = refl
no_row choice s label misses a (w ∷ ws) l =
    let here : sets choice (row_from a 0 (receivers s w)) ≡ 0 = misses a w (λ e. omega arith) in
    let rest : sets_in choice (rows_from s (a + 1) ws) ≡ 0 = no_row choice s label misses (a + 1) ws (omega arith) in
    rw (sets_in-cons choice (row_from a 0 (receivers s w)) (rows_from s (a + 1) ws)) (omega arith)

one_row : (choice : Choice) (s : Shape) (label m : ℕ) → ((k : ℕ) (w : List ℕ) → k ≢ label → sets choice (row_from k 0 (receivers s w)) ≡ 0) → ((k : ℕ) (w : List ℕ) → sets choice (row_from k 0 (receivers s w)) ≤ m) → (a : ℕ) (ws : List (List ℕ)) → sets_in choice (rows_from s a ws) ≤ m
one_row choice s label m misses few a [] = omega arith
one_row choice s label m misses few a (w ∷ ws) =
    let here : sets choice (row_from a 0 (receivers s w)) ≤ m = few a w in
    rw (sets_in-cons choice (row_from a 0 (receivers s w)) (rows_from s (a + 1) ws)) (elim (cases_eq a label) [
      | inl same ↦ let rest : sets_in choice (rows_from s (a + 1) ws) ≡ 0 = no_row choice s label misses (a + 1) ws (omega arith) in omega arith
      | inr ne ↦
          let none : sets choice (row_from a 0 (receivers s w)) ≡ 0 = misses a w ne in
          let rest : sets_in choice (rows_from s (a + 1) ws) ≤ m = one_row choice s label m misses few (a + 1) ws in
          omega arith
    ])

-- The choices of the four helpers.
bit_of : (e : Bool) (x : ℕ) → cond (is_some (if e then Some x else None)) 1 0 ≤ cond e 1 0
bit_of true x = omega arith
bit_of false x = omega arith

bit_both : (t e : Bool) (x : ℕ) → cond (is_some (if t && e then Some x else None)) 1 0 ≤ cond e 1 0
bit_both true e x = bit_of e x
bit_both false true x = omega arith
bit_both false false x = omega arith

pub sent_few : (r : Relay) (label receiver order : ℕ) → places_set r (at_place label receiver order) ≤ 1
sent_few r label receiver order =
    one_row (at_place label receiver order) r.shape label 1
    (λ k w ne. row_none (at_place label receiver order) k (λ b n. ap (λ t. is_some (if t && (n == receiver) then Some order else None)) (ne_eqb k label ne)) 0 (receivers r.shape w))
    (row_one (at_place label receiver order) receiver (λ p. bit_both (p.rank == label) (p.receiver == receiver) order) r.shape) 0 (relayed r)

swayed_few : (r : Relay) (receiver order : ℕ) → places_set r (at_receiver receiver order) ≤ length (relayed r)
swayed_few r receiver order =
    one_each (at_receiver receiver order) r.shape (row_one (at_receiver receiver order) receiver (λ p. bit_of (p.receiver == receiver) order) r.shape) 0 (relayed r)

taken_few : (r : Relay) (context : List ℕ) (receiver : ℕ) → places_set r (as_taken context receiver) ≤ length (relayed r)
taken_few r context receiver =
    one_each (as_taken context receiver) r.shape (row_one (as_taken context receiver) receiver (λ p. bit_of (p.receiver == receiver) (taken_value context p.rank)) r.shape) 0 (relayed r)

present : (orders : List ℕ) (b : ℕ) → cond (is_some (slice_get orders b)) 1 0 + (length orders - (b + 1)) ≤ length orders - b
present [] b = omega arith
present (x ∷ xs) zero = omega arith
present (x ∷ xs) (suc b) = omega (arith, present xs b)

along_one : (t : Bool) (orders : List ℕ) (b rest : ℕ) → rest ≤ length orders - (b + 1) → cond (is_some (if t then slice_get orders b else None)) 1 0 + rest ≤ length orders - b
along_one true orders b rest l = omega (arith, present orders b)
along_one false orders b rest l = omega arith

row_along : (label : ℕ) (orders : List ℕ) (k b : ℕ) (ns : List ℕ) → sets (along_row label orders) (row_from k b ns) ≤ length orders - b
row_along label orders k b [] = omega arith
row_along label orders k b (n ∷ ns) =
    rw (sets-cons (along_row label orders) (record { rank = k; number = b; receiver = n }) (row_from k (b + 1) ns))
    (along_one (k == label) orders b (sets (along_row label orders) (row_from k (b + 1) ns)) (row_along label orders k (b + 1) ns))

along_few : (r : Relay) (label : ℕ) (orders : List ℕ) → places_set r (along_row label orders) ≤ length orders
along_few r label orders =
    one_row (along_row label orders) r.shape label (length orders)
    (λ k w ne. row_none (along_row label orders) k (λ b n. ap (λ t. is_some (if t then slice_get orders b else None)) (ne_eqb k label ne)) 0 (receivers r.shape w))
    (λ k w. omega (arith, row_along label orders k 0 (receivers r.shape w))) 0 (relayed r)

pub few_places : FewPlacesAreSet
few_places = record { sent = sent_few; along = along_few; swayed = swayed_few; taken = taken_few }

-- A general relays few labels.
first_only : (b : Bool) (x : List ℕ) → length (if b then x ∷ [] else []) ≤ 990
first_only true x = omega arith
first_only false x = omega arith

most_few : (k : ℕ) → k ≤ 3 → most k ≤ 990
most_few zero l = omega arith
most_few (suc zero) l = omega arith
most_few (suc (suc zero)) l = omega arith
most_few (suc (suc (suc zero))) l = omega arith
most_few (suc (suc (suc (suc k)))) l = absurd (omega arith)

pub round_few : (n c p k : ℕ) → n ≤ 13 → c < n → p < n → p ≢ c → k ≤ 4 → length (labels n c p k) ≤ 990
unfolding labels
round_few n c p zero short inside within ne l = omega arith
round_few n c p (suc k) short inside within ne l = omega (arith, labels-few n c p k short inside within ne, most_few k (omega arith))

shape_few : (s : Shape) → IsShape s → length (relay s) ≤ 990
shape_few s a =
    let short : s.generals ≤ 13 = a.few in
    let inside : s.commander < s.generals = a.commander in
    let within : s.general < s.generals = a.general in
    let last : s.round ≤ 5 = a.last in
    elim (eqb_tells s.general s.commander) [
      | inl same ↦ rw same.0 (first_only (s.round == 1) [])
      | inr apart ↦ rw apart.0 (round_few s.generals s.commander s.general (s.round - 1) short inside within apart.1 (omega arith))
    ]

told_few : (kind : Kind) (s : Shape) → IsShape s → length (labels_told kind s) ≤ 990
told_few Oral s a = shape_few s a
told_few (Signed held) s a = omega arith

pub relays_few : RelaysAreFew
relays_few r a = told_few r.kind r.shape a

-- The number of orders that a helper sets has at most 64 bits.
pub places_few : (r : Relay) (choice : Choice) → IsRelay r → places_set r choice ≤ 13 * 990
places_few r choice is = omega (arith, rows_few choice r.shape is 0 (relayed r), relays_few r is)

pub swayed_most : (r : Relay) (receiver order : ℕ) → IsRelay r → places_set r (at_receiver receiver order) ≤ most_labels
swayed_most r receiver order is = omega (arith, swayed_few r receiver order, relays_few r is)

pub taken_most : (r : Relay) (context : List ℕ) (receiver : ℕ) → IsRelay r → places_set r (as_taken context receiver) ≤ most_labels
taken_most r context receiver is = omega (arith, taken_few r context receiver, relays_few r is)

-- The greatest number of orders that each choice sets.
pub ruleset most_set = (sent_few, swayed_most, taken_most)

pub ranges_kept : RangesAreKept
ranges_kept = record {
  along = λ s label orders l. omega (arith, along_few s label orders);
  swayed = swayed_most;
  taken = taken_most;
}
