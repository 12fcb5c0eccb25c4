-- Proves that each message to a lieutenant has one stroke, in a row of the list of its round.
use Rattle.std.proofs.Common.{ℕ, zero, suc, ◌+◌, ◌-◌, ◌<◌, ◌≤◌, ◌≡◌, ◌≢◌, Bool, true, false, ◌&&◌, cond, List, [], ◌∷◌, ◌++◌, length, length-append, map, refl, sym, ap, subst, ◌∙◌, arith, inl, inr, Some}
use Rattle.std.proofs.lemmas.Bool.{and_from, and_parts, and_right, cases_Bool, cond_both, eq-eqb, eqb-true, le-leb, lt-leb, ltb-false, ltb-true, ne_eqb}
use Rattle.std.proofs.lemmas.List.Elements.{All-from_recursion}
use Rattle.std.proofs.lemmas.List.Sums.{sum_by-cons}
use Rattle.std.specs.Prelude.{◌==◌, count_by, drop, filter, if◌then◌else◌, take}
use Rattle.std.specs.List.{AllByRecursion, list_any, range_with_len}
use Rattle.label.specs.Labels.{on, others}
use Rattle.label.proofs.Counting.{others-on}
use Rattle.book.specs.Table.{MessageTable}
use Rattle.book.proofs.Places.{all_flat}
use Rattle.show_diagram.specs.declared.stroke.Stroke.{Stroke}
use Rattle.show_diagram.specs.declared.told_order.Telling.{Telling}
use Rattle.show_diagram.specs.Facts.{strokes_of, telling_at, tellings_below, tellings_by, tellings_of}
use Rattle.show_diagram.specs.Laws.{RowsAreExact, StrokesAreExact, drawn_in, has_lied, has_lied_as, is_of, labels_told, list_in, told_by}
use Rattle.show_diagram.specs.Left.{is_past}
use Rattle.show_diagram.specs.Lists.{has_row, is_in, is_lie, is_lie_to, is_same, is_to, labels_of, list_behind, list_of, list_to, lists_of, lists_to, stroke_of, strokes_from, teller, with_rows}
use Rattle.show_diagram.specs.Order.{arranged, firsts, most_rows}
use Rattle.show_diagram.proofs.LiesLemmas.{is_lie_of, liar_before, no_honest_before}
use Rattle.show_diagram.proofs.OnceLemmas.{count_within_told, told_once}
use Rattle.show_diagram.proofs.OrderLemmas.{all_filter, all_firsts, any_arranged, count_arranged}
use Rattle.show_diagram.proofs.RowLemmas.{IsWithin, all_range, all_strokes, any_stroke, count_strokes, count_within, drop_strokes, filters_swap, first_rows, his_list, rows_are, take_strokes}

-- ---- all messages to a lieutenant

-- Proves that the rounds and senders of the messages are within their limits.
within_below : (t : MessageTable) (k : ℕ) (w : List ℕ) (p rounds : ℕ) → length w + k ≤ rounds → AllByRecursion (IsWithin rounds) (tellings_below t k w p)
unfolding tellings_below
within_below t zero w p rounds few = tt
within_below t (suc k) w p rounds few =
    all_flat (IsWithin rounds) (tellings_by t k w p) (others t.generals (p ∷ w))
    (λ j there.
    let long : length (w ++ j ∷ []) ≡ length w + 1 = length-append w (j ∷ []) in
    ((omega arith, omega arith), within_below t k (w ++ j ∷ []) p rounds (omega arith)))

within_all : (t : MessageTable) (order p : ℕ) → AllByRecursion (IsWithin (t.bound + 1)) (tellings_of t order p)
unfolding tellings_of
within_all t order p = ((omega arith, omega arith), within_below t t.bound (t.commander ∷ []) p (t.bound + 1) (omega arith))

tellers_below : (t : MessageTable) (k : ℕ) (w : List ℕ) (p : ℕ) → AllByRecursion (λ (x : Telling). x.teller < t.generals) (tellings_below t k w p)
unfolding tellings_below
tellers_below t zero w p = tt
tellers_below t (suc k) w p =
    all_flat (λ (x : Telling). x.teller < t.generals) (tellings_by t k w p) (others t.generals (p ∷ w))
    (λ j there. ((others-on t.generals (p ∷ w) j there).0, tellers_below t k (w ++ j ∷ []) p))

tellers_all : (t : MessageTable) (order p : ℕ) → t.commander < t.generals → AllByRecursion (λ (x : Telling). x.teller < t.generals) (tellings_of t order p)
unfolding tellings_of
tellers_all t order p inside = (inside, tellers_below t t.bound (t.commander ∷ []) p)

-- ---- one list

-- The messages of a round without repetitions.
abbrev things : List Telling → ℕ → List Telling
things T round = filter (is_in round) (firsts is_same [] T)

abbrev numbers : List Telling → Telling → ℕ
numbers T = labels_of T

listed : (t : MessageTable) (order round p : ℕ) → p < t.generals → p ≢ t.commander → list_in t order round p ≡ list_of p (tellings_of t order p) round
unfolding strokes_of
listed t order round p inside lieutenant = his_list t.generals t.commander (t.bound + 1) p round (tellings_of t order) inside lieutenant (within_all t order p)

drawn_first : (t : MessageTable) (order round p : ℕ) → p < t.generals → p ≢ t.commander → drawn_in t order round p ≡ strokes_from p (numbers (tellings_of t order p)) 0 (take most_rows (arranged is_lie teller (things (tellings_of t order p) round)))
drawn_first t order round p inside lieutenant =
    filters_swap (is_to round p) has_row (strokes_of t order)
    ∙ (ap (filter has_row) (listed t order round p inside lieutenant)
    ∙ first_rows p (numbers (tellings_of t order p)) 0 most_rows (arranged is_lie teller (things (tellings_of t order p) round)) refl)

first_drawn : (t : MessageTable) (order round p : ℕ) → p < t.generals → p ≢ t.commander → drawn_in t order round p ≡ take most_rows (list_in t order round p)
first_drawn t order round p inside lieutenant =
    drawn_first t order round p inside lieutenant
    ∙ (sym (take_strokes p (numbers (tellings_of t order p)) 0 most_rows (arranged is_lie teller (things (tellings_of t order p) round)))
    ∙ sym (ap (take most_rows) (listed t order round p inside lieutenant)))

rows_numbered : (t : MessageTable) (order round p : ℕ) → p < t.generals → p ≢ t.commander → map (λ (x : Stroke). x.row) (list_in t order round p) ≡ range_with_len 0 (length (list_in t order round p))
rows_numbered t order round p inside lieutenant =
    let e = listed t order round p inside lieutenant in
    ap (map (λ (x : Stroke). x.row)) e
    ∙ (rows_are p (numbers (tellings_of t order p)) 0 (arranged is_lie teller (things (tellings_of t order p) round)) ∙ sym (ap (λ (xs : List Stroke). range_with_len 0 (length xs)) e))

only_lies : (t : MessageTable) (order round p : ℕ) → p < t.generals → p ≢ t.commander → list_any has_lied (drop most_rows (list_in t order round p)) ≡ true
    → AllByRecursion (λ (x : Stroke). x.differs ≡ true) (drawn_in t order round p)
only_lies t order round p inside lieutenant left =
    let T : List Telling = tellings_of t order p in
    let rows : List Telling = arranged is_lie teller (things T round) in
    let here : list_any is_lie (drop most_rows rows) ≡ true =
    sym (any_stroke has_lied is_lie p (numbers T) (0 + most_rows) (drop most_rows rows) (λ x i. refl))
    ∙ (sym (ap (list_any has_lied) (drop_strokes p (numbers T) 0 most_rows rows)) ∙ (sym (ap (λ xs. list_any has_lied (drop most_rows xs)) (listed t order round p inside lieutenant)) ∙ left)) in
    subst (AllByRecursion (λ (x : Stroke). x.differs ≡ true)) (sym (drawn_first t order round p inside lieutenant))
    (all_strokes (λ (x : Stroke). x.differs ≡ true) (λ (x : Telling). x.differs ≡ true) p (numbers T) 0 (take most_rows rows) (λ x i e. e) (no_honest_before is_lie teller (things T round) here))

each_liar : (t : MessageTable) (order round p j : ℕ) → p < t.generals → p ≢ t.commander → t.commander < t.generals → t.generals ≤ most_rows
    → list_any (has_lied_as j) (list_in t order round p) ≡ true → list_any (has_lied_as j) (drawn_in t order round p) ≡ true
each_liar t order round p j inside lieutenant present few there =
    let T : List Telling = tellings_of t order p in
    let list : List Telling = things T round in
    let below : AllByRecursion (λ (x : Telling). x.teller < t.generals) list =
    all_filter (λ (x : Telling). x.teller < t.generals) (is_in round) (firsts is_same [] T) (all_firsts (λ (x : Telling). x.teller < t.generals) is_same [] T (tellers_all t order p present)) in
    let some : list_any (is_lie_of is_lie teller j) (arranged is_lie teller list) ≡ true =
    sym (any_stroke (has_lied_as j) (is_lie_of is_lie teller j) p (numbers T) 0 (arranged is_lie teller list) (λ x i. refl)) ∙ (sym (ap (list_any (has_lied_as j)) (listed t order round p inside lieutenant)) ∙ there) in
    ap (list_any (has_lied_as j)) (drawn_first t order round p inside lieutenant)
    ∙ (any_stroke (has_lied_as j) (is_lie_of is_lie teller j) p (numbers T) 0 (take most_rows (arranged is_lie teller list)) (λ x i. refl) ∙ liar_before is_lie teller t.generals j list few below (any_arranged (is_lie_of is_lie teller j) is_lie teller list some))

-- ---- one stroke for each message

-- Proves that a stroke shows each message of a round exactly once.
once : (t : MessageTable) (order p : ℕ) (q : Telling) → p < t.generals → p ≢ t.commander → count_by (is_of p q) (strokes_of t order) ≡ (if list_any (is_same q) (tellings_of t order p) then 1 else 0)
once t order p q inside lieutenant =
    let T : List Telling = tellings_of t order p in
    let once_each : List Telling = firsts is_same [] T in
    count_within (is_of p q) (is_to q.round p) (strokes_of t order) (λ st e. its_list st e)
    ∙ (ap (count_by (is_of p q)) (listed t order q.round p inside lieutenant)
    ∙ (count_strokes (is_of p q) (is_same q) p (numbers T) 0 (arranged is_lie teller (things T q.round)) (λ x i. ap (λ b. b && is_same q x) (eq-eqb p p refl))
    ∙ (count_arranged (is_same q) is_lie teller (things T q.round) ∙ (sym (count_within_told (is_same q) (is_in q.round) once_each (λ x e. its_round x e)) ∙ told_once q T))))
  where
    its_round : (x : Telling) → is_same q x ≡ true → is_in q.round x ≡ true
    its_round x e =
        let same = and_parts (q.round == x.round) _ e in
        eq-eqb x.round q.round (sym (eqb-true q.round x.round same.0))

    its_list : (st : Stroke) → is_of p q st ≡ true → is_to q.round p st ≡ true
    its_list st e =
        let both = and_parts (st.receiver == p) (is_same q (told_by st)) e in
        and_from (st.round == q.round) (st.receiver == p) (its_round (told_by st) both.1) both.0

-- ---- the number of labels of a stroke

abbrev IsWide : MessageTable → ℕ → Stroke → Type 0
IsWide t order stroke = stroke.labels ≡ labels_told t order stroke

all_of : (xs : List Telling) → AllByRecursion (λ (x : Telling). Unit {0}) xs
all_of [] = tt
all_of (x ∷ xs) = (tt, all_of xs)

all_wide : (t : MessageTable) (order : ℕ) → AllByRecursion (IsWide t order) (strokes_of t order)
unfolding strokes_of
all_wide t order =
    all_range (IsWide t order) (lists_to t.commander (t.bound + 1) (tellings_of t order)) t.generals
    (λ p l. cond_both (p == t.commander) [] (lists_of p (tellings_of t order p) (t.bound + 1)) (AllByRecursion (IsWide t order)) (λ e. tt)
    (λ e. all_range (IsWide t order) (list_behind p (tellings_of t order p)) (t.bound + 1)
    (λ k m. all_strokes (IsWide t order) (λ (x : Telling). Unit {0}) p (numbers (tellings_of t order p)) 0 (arranged is_lie teller (things (tellings_of t order p) (k + 1))) (λ x i u. refl)
    (all_of (arranged is_lie teller (things (tellings_of t order p) (k + 1)))))))

-- ---- drawn and left-out strokes are all strokes

head_count : (f : Stroke → Bool) (x : Stroke) (xs : List Stroke) → count_by f (x ∷ xs) ≡ cond {A = ℕ} (f x) 1 0 + count_by f xs
head_count f x xs = sum_by-cons (λ y. cond (f y) 1 0) x xs

pub kept : (f : Stroke → Bool) (strokes : List Stroke) → count_by f (with_rows strokes) + count_by (λ x. is_past x && f x) strokes ≡ count_by f strokes
kept f [] = refl
kept f (x ∷ xs) =
    let rest = kept f xs in
    let left = head_count (λ y. is_past y && f y) x xs in
    let whole = head_count f x xs in
    elim (cases_Bool (has_row x)) [
      | inl within ↦
          let first : count_by f (with_rows (x ∷ xs)) ≡ cond {A = ℕ} (f x) 1 0 + count_by f (with_rows xs) = ap (λ b. count_by f (cond b (x ∷ with_rows xs) (with_rows xs))) within ∙ head_count f x (with_rows xs) in
          let none : cond {A = ℕ} (is_past x && f x) 1 0 ≡ 0 = ap (λ b. cond {A = ℕ} (b && f x) 1 0) (lt-leb most_rows x.row (ltb-true x.row most_rows within)) in
          omega arith
      | inr past ↦
          let first : count_by f (with_rows (x ∷ xs)) ≡ count_by f (with_rows xs) = ap (λ b. count_by f (cond b (x ∷ with_rows xs) (with_rows xs))) past in
          let one : cond {A = ℕ} (is_past x && f x) 1 0 ≡ cond {A = ℕ} (f x) 1 0 = ap (λ b. cond {A = ℕ} (b && f x) 1 0) (le-leb most_rows x.row (ltb-false x.row most_rows past)) in
          omega arith
    ]

pub proved_strokes_are_exact : StrokesAreExact
proved_strokes_are_exact = record {
  once = once;
  wide = λ t order. All-from_recursion (IsWide t order) (strokes_of t order) (all_wide t order);
}

pub proved_rows_are_exact : RowsAreExact
proved_rows_are_exact = record {
  numbered = rows_numbered;
  first = first_drawn;
  lies = λ t order round p inside lieutenant left. All-from_recursion (λ (x : Stroke). x.differs ≡ true) (drawn_in t order round p) (only_lies t order round p inside lieutenant left);
  liars = each_liar;
  counted = λ strokes round p. kept (is_to round p) strokes;
  lies_counted = λ strokes round p. kept (is_lie_to round p) strokes;
}
