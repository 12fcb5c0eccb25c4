-- Labels and receivers are places of a message table.
use Rattle.std.proofs.Common.{ℕ, suc, ◌+◌, ◌-◌, ◌<◌, ◌≤◌, ◌≡◌, ◌≢◌, true, false, not, List, [], ◌∷◌, ◌++◌, length, Some, refl, sym, ap, ◌∙◌, arith, append_assoc, append-nil}
use Rattle.std.specs.Prelude.{nat_lt, nat_le, slice_get}
use Rattle.std.specs.List.{flat_map, list_all, range_with_len}
use Rattle.std.proofs.lemmas.Bool.{and_from, lt-ltb, le-leb, eq-eqb, ne_eqb}
use Rattle.std.proofs.lemmas.List.{flat_map_more}
use Rattle.label.specs.Labels.{on, is_distinct, labels}
use Rattle.label.specs.Oral.{AllBelow, BeginsWith, IsLabel}
use Rattle.label.specs.Relay.{relay}
use Rattle.label.specs.Space.{begins_with}
use Rattle.label.proofs.Listing.{proved_labels_are_exact}
use Rattle.label.proofs.Pushes.{IsLabel-push}
use Rattle.label.proofs.Ranks.{range_push}
use Rattle.book.specs.Grammar.{is_place}
use Rattle.book.specs.Table.{MessageTable}
use Rattle.table_scenario.specs.Programs.{label_text, relayed_text, round_text, rounds_of, rounds_text, shape_of}

below : (n : ℕ) (w : List ℕ) → AllBelow n w → list_all (λ x. nat_lt x n) w ≡ true
below n [] a = refl
below n (x ∷ xs) a = and_from (nat_lt x n) (list_all (λ y. nat_lt y n) xs) (lt-ltb x n a.0) (below n xs a.1)

begins : (c : ℕ) (w : List ℕ) → BeginsWith c w → begins_with c w ≡ true
begins c [] b = absurd b
begins c (x ∷ xs) b = eq-eqb x c b

-- A label of the campaign, and a receiver who is not on it, are a place of its table.
pub placed : (t : MessageTable) (w : List ℕ) (p : ℕ) → IsLabel t.generals t.commander w → length w ≤ t.bound + 1 → p < t.generals → on w p ≡ false → is_place t w p ≡ true
placed t w p label short within off =
    and_from _ (not (on w p))
    (and_from _ (nat_lt p t.generals)
    (and_from _ (nat_le (length w) (t.bound + 1))
    (and_from _ (list_all (λ x. nat_lt x t.generals) w)
    (and_from (is_distinct w) (begins_with t.commander w) label.distinct (begins t.commander w label.first))
    (below t.generals w label.below))
    (le-leb (length w) (t.bound + 1) short))
    (lt-ltb p t.generals within))
    (rw off refl)

-- A label that a lieutenant relays, extended by him, is a label with one more general.
pub relayed : (n c g k r : ℕ) (w : List ℕ) → c < n → g < n → g ≢ c → slice_get (labels n c g k) r ≡ Some w → IsLabel n c (w ++ g ∷ []) × (on w g ≡ false) × (length w ≡ k)
relayed n c g k r w lc lg ne at =
    let is = proved_labels_are_exact.only n c g k r w lc lg ne at in
    (IsLabel-push is.0 g lg is.1, is.1, is.2)

-- The commander alone is a label.
pub alone : (n c g : ℕ) → c < n → g ≡ c → IsLabel n c (g ∷ [])
alone n c g lc e = record { first = e; below = ((omega arith), tt); distinct = refl }

-- The commander relays the empty label.
pub by_commander : (t : MessageTable) (g round : ℕ) → g ≡ t.commander → round ≡ 1 → relayed_text t g (relay (shape_of t g round)) ≡ label_text t 0 (g ∷ [])
by_commander t g round e first = rw (eq-eqb g t.commander e, first) (append-nil (label_text t 0 (g ∷ [])))

-- A lieutenant relays the labels of the round before.
pub by_lieutenant : (t : MessageTable) (g round : ℕ) → g ≢ t.commander → relay (shape_of t g round) ≡ labels t.generals t.commander g (round - 1)
by_lieutenant t g round ne = rw (ne_eqb g t.commander ne) refl

-- The rounds of the commander and of a lieutenant.
pub round_of_commander : (t : MessageTable) (g : ℕ) → g ≡ t.commander → round_text t g 1 ≡ rounds_text t g
round_of_commander t g e =
    let first : rounds_of t g ≡ 1 ∷ [] = rw (eq-eqb g t.commander e) refl in
    sym (ap (flat_map (round_text t g)) first ∙ append-nil (round_text t g 1))

pub rounds_of_lieutenant : (t : MessageTable) (g : ℕ) → g ≢ t.commander → flat_map (round_text t g) (range_with_len 2 t.bound) ≡ rounds_text t g
rounds_of_lieutenant t g ne =
    let later : rounds_of t g ≡ range_with_len 2 t.bound = rw (ne_eqb g t.commander ne) refl in
    sym (ap (flat_map (round_text t g)) later)

-- One more round.
pub next_round : (line : ℕ → List ℕ) (round done : ℕ) (old : List ℕ) → 2 ≤ round → done ≡ round + 1 → (old ++ flat_map line (range_with_len 2 (round - 2))) ++ line round ≡ old ++ flat_map line (range_with_len 2 (done - 2))
next_round line round done old l e =
    let after : done - 2 ≡ suc (round - 2) = omega arith in
    let last : 2 + (round - 2) ≡ round = omega arith in
    let more : range_with_len 2 (suc (round - 2)) ≡ range_with_len 2 (round - 2) ++ round ∷ [] = range_push 2 (round - 2) ∙ ap (λ (x : ℕ). range_with_len 2 (round - 2) ++ x ∷ []) last in
    append_assoc old (flat_map line (range_with_len 2 (round - 2))) (line round)
    ∙ ap (λ x. old ++ x) (flat_map_more line [] (range_with_len 2 (round - 2)) round ∙ (sym (ap (flat_map line) more) ∙ sym (ap (λ (k : ℕ). flat_map line (range_with_len 2 k)) after)))
