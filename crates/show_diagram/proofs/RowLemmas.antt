-- A lieutenant's list for a round, found among all strokes, and the rows of the list.
use Rattle.std.proofs.Common.{ℕ, zero, suc, ◌+◌, ◌-◌, ◌<◌, ◌≤◌, ◌≡◌, ◌≢◌, Bool, true, false, not, ◌&&◌, ◌||◌, cond, List, [], ◌∷◌, ◌++◌, length, map, refl, sym, ap, subst, ◌∙◌, append_assoc, append-nil, arith, inl, inr}
use Rattle.std.proofs.lemmas.Bool.{and_from, and_left, and_right, cases_Bool, cond-false, cond_both, eq-eqb, eqb-false, eqb-true, le-ltb, lt-ltb, ltb-false, ltb-true, ne_eqb, true≢false}
use Rattle.std.proofs.lemmas.List.Concat.{flat_map-append}
use Rattle.std.proofs.lemmas.List.Elements.{filter-append}
use Rattle.std.proofs.lemmas.List.Sums.{sum_by-cons}
use Rattle.std.specs.List.{AllByRecursion, flat_map, list_any, range_with_len}
use Rattle.std.specs.Prelude.{◌==◌, nat_lt, count_by, drop, take, filter, if◌then◌else◌}
use Rattle.label.proofs.Places.{all-append}
use Rattle.label.proofs.Ranks.{range_push}
use Rattle.show_diagram.specs.declared.stroke.Stroke.{Stroke}
use Rattle.show_diagram.specs.declared.told_order.Telling.{Telling}
use Rattle.show_diagram.specs.Lists.{all_lists, has_row, is_in, is_lie, is_same, is_to, labels_of, list_behind, list_of, list_to, lists_of, lists_to, stroke_of, strokes_from, teller, with_rows}
use Rattle.show_diagram.specs.Order.{arranged, firsts, most_rows}
use Rattle.show_diagram.proofs.OrderLemmas.{all_arranged, all_firsts, all_passed}

-- ---- one of many lists

range_next : (n : ℕ) → range_with_len 0 (suc n) ≡ range_with_len 0 n ++ n ∷ []
range_next n = range_push 0 n ∙ ap (λ (i : ℕ). range_with_len 0 n ++ i ∷ []) (let e : 0 + n ≡ n = omega arith in e)

flat_next : {A : Type 0} (g : ℕ → List A) (n : ℕ) → flat_map g (range_with_len 0 (suc n)) ≡ flat_map g (range_with_len 0 n) ++ g n
flat_next g n = ap (flat_map g) (range_next n) ∙ (flat_map-append g (range_with_len 0 n) (n ∷ []) ∙ ap (λ xs. flat_map g (range_with_len 0 n) ++ xs) (append-nil (g n)))

-- Proves that the lists of n receivers and the list of the next one are the lists of n + 1.
pub lists_more : (g : ℕ → List Stroke) (n : ℕ) (start old new : List Stroke) → old ≡ start ++ flat_map g (range_with_len 0 n) → new ≡ old ++ g n → new ≡ start ++ flat_map g (range_with_len 0 (n + 1))
lists_more g n start old new so next =
    next
    ∙ (ap (λ xs. xs ++ g n) so
    ∙ (append_assoc start (flat_map g (range_with_len 0 n)) (g n)
    ∙ ap (λ xs. start ++ xs) (sym (flat_next g n) ∙ ap (λ (k : ℕ). flat_map g (range_with_len 0 k)) (let e : suc n ≡ n + 1 = omega arith in e))))

-- Proves that what holds of the elements of each list holds of the elements of all lists.
pub all_range : {A : Type 0} (P : A → Type 0) (g : ℕ → List A) (n : ℕ) → ((i : ℕ) → i < n → AllByRecursion P (g i)) → AllByRecursion P (flat_map g (range_with_len 0 n))
all_range P g zero h = tt
all_range P g (suc n) h =
    subst (AllByRecursion P) (sym (flat_next g n)) (all-append P (flat_map g (range_with_len 0 n)) (g n) (all_range P g n (λ i l. h i (omega arith))) (h n (omega arith)))

pub none_of : {A : Type 0} (g : ℕ → List A) (n : ℕ) → ((i : ℕ) → i < n → g i ≡ []) → flat_map g (range_with_len 0 n) ≡ []
none_of g zero h = refl
none_of g (suc n) h = flat_next g n ∙ (ap (λ xs. xs ++ g n) (none_of g n (λ i l. h i (omega arith))) ∙ h n (omega arith))

pub one_of : {A : Type 0} (g : ℕ → List A) (k n : ℕ) → k < n → ((i : ℕ) → i ≢ k → g i ≡ []) → flat_map g (range_with_len 0 n) ≡ g k
one_of g k zero l h = absurd (omega arith)
one_of g k (suc n) l h = elim (cases_Bool (n == k)) [
  | inl same ↦
      let e : n ≡ k = eqb-true n k same in
      flat_next g n ∙ (ap (λ xs. xs ++ g n) (none_of g n (λ i m. h i (λ f. absurd (omega arith)))) ∙ ap g e)
  | inr other ↦
      let apart : n ≢ k = eqb-false n k other in
      flat_next g n ∙ (ap (λ xs. flat_map g (range_with_len 0 n) ++ xs) (h n apart) ∙ (append-nil (flat_map g (range_with_len 0 n)) ∙ one_of g k n (omega arith) h))
]

pub filter_flat : {A : Type 0} (f : A → Bool) (g : ℕ → List A) (xs : List ℕ) → filter f (flat_map g xs) ≡ flat_map (λ i. filter f (g i)) xs
filter_flat f g [] = refl
filter_flat f g (x ∷ xs) = filter-append f (g x) (flat_map g xs) ∙ ap (λ ys. filter f (g x) ++ ys) (filter_flat f g xs)

-- ---- strokes of one list

pub all_kept : {A : Type 0} (f : A → Bool) (xs : List A) → AllByRecursion (λ (x : A). f x ≡ true) xs → filter f xs ≡ xs
all_kept f [] a = refl
all_kept f (x ∷ xs) a = ap (λ b. if b then x ∷ filter f xs else filter f xs) a.0 ∙ ap (λ ys. x ∷ ys) (all_kept f xs a.1)

pub none_kept : {A : Type 0} (f : A → Bool) (xs : List A) → AllByRecursion (λ (x : A). f x ≡ false) xs → filter f xs ≡ []
none_kept f [] a = refl
none_kept f (x ∷ xs) a = ap (λ b. if b then x ∷ filter f xs else filter f xs) a.0 ∙ none_kept f xs a.1

-- Proves that what holds of all messages holds of the strokes that show them.
pub all_strokes : (P : Stroke → Type 0) (Q : Telling → Type 0) (p : ℕ) (labels : Telling → ℕ) (row : ℕ) (xs : List Telling) → ((x : Telling) (i : ℕ) → Q x → P (stroke_of p x (labels x) i)) → AllByRecursion Q xs
    → AllByRecursion P (strokes_from p labels row xs)
unfolding strokes_from
all_strokes P Q p labels row [] h a = tt
all_strokes P Q p labels row (x ∷ xs) h a = (h x row a.0, all_strokes P Q p labels (row + 1) xs h a.1)

module _ (p r : ℕ) (T : List Telling) where
  -- Proves that the list of another round has no stroke of this round.
  other_round : (k : ℕ) → k + 1 ≢ r → filter (is_to r p) (list_behind p T k) ≡ []
  other_round k apart =
      none_kept (is_to r p) (list_behind p T k)
      (all_strokes (λ st. is_to r p st ≡ false) (λ x. is_in (k + 1) x ≡ true) p (labels_of T) 0 (arranged is_lie teller (filter (is_in (k + 1)) (firsts is_same [] T)))
      (λ x i e. and_left (x.round == r) (p == p) (ne_eqb x.round r (λ f. apart (sym (eqb-true x.round (k + 1) e) ∙ f))))
      (all_arranged (λ x. is_in (k + 1) x ≡ true) is_lie teller (filter (is_in (k + 1)) (firsts is_same [] T)) (all_passed (is_in (k + 1)) (firsts is_same [] T))))

  own_round : (k : ℕ) → k + 1 ≡ r → filter (is_to r p) (list_behind p T k) ≡ list_of p T r
  own_round k e =
      all_kept (is_to r p) (list_behind p T k)
      (all_strokes (λ st. is_to r p st ≡ true) (λ x. is_in (k + 1) x ≡ true) p (labels_of T) 0 (arranged is_lie teller (filter (is_in (k + 1)) (firsts is_same [] T)))
      (λ x i f. and_from (x.round == r) (p == p) (eq-eqb x.round r (eqb-true x.round (k + 1) f ∙ e)) (eq-eqb p p refl))
      (all_arranged (λ x. is_in (k + 1) x ≡ true) is_lie teller (filter (is_in (k + 1)) (firsts is_same [] T)) (all_passed (is_in (k + 1)) (firsts is_same [] T))))
      ∙ ap (list_of p T) e

-- Proves that strokes to another receiver are not in this list.
other_receiver : (p r q : ℕ) (labels : Telling → ℕ) (row : ℕ) (xs : List Telling) → q ≢ p → filter (is_to r p) (strokes_from q labels row xs) ≡ []
unfolding strokes_from
other_receiver p r q labels row [] apart = refl
other_receiver p r q labels row (x ∷ xs) apart =
    let rest : List Stroke = filter (is_to r p) (strokes_from q labels (row + 1) xs) in
    ap (λ b. if b then stroke_of q x (labels x) row ∷ rest else rest) (and_right (x.round == r) (q == p) (ne_eqb q p apart)) ∙ other_receiver p r q labels (row + 1) xs apart

-- States that a message was sent in one of the first `rounds` rounds.
abbrev pub IsWithin : ℕ → Telling → Type 0
IsWithin rounds x = (0 < x.round) × (x.round ≤ rounds)

none_in : (r : ℕ) (xs : List Telling) → AllByRecursion (λ x. is_in r x ≡ false) xs → filter (is_in r) xs ≡ []
none_in r [] a = refl
none_in r (x ∷ xs) a = ap (λ b. if b then x ∷ filter (is_in r) xs else filter (is_in r) xs) a.0 ∙ none_in r xs a.1

weaken : (P Q : Telling → Type 0) (xs : List Telling) → ((x : Telling) → P x → Q x) → AllByRecursion P xs → AllByRecursion Q xs
weaken P Q [] h a = tt
weaken P Q (x ∷ xs) h a = (h x a.0, weaken P Q xs h a.1)

-- Proves that there is no list for any other round.
no_list : (p r rounds : ℕ) (T : List Telling) → AllByRecursion (IsWithin rounds) T → ((x : Telling) → IsWithin rounds x → x.round ≢ r) → list_of p T r ≡ []
unfolding strokes_from
no_list p r rounds T a out =
    let his : List Telling = firsts is_same [] T in
    let none : filter (is_in r) his ≡ [] =
    none_in r his (weaken (IsWithin rounds) (λ x. is_in r x ≡ false) his (λ x w. ne_eqb x.round r (out x w)) (all_firsts (IsWithin rounds) is_same [] T a)) in
    ap (λ xs. strokes_from p (labels_of T) 0 (arranged is_lie teller xs)) none

pub lists_hold : (p r rounds : ℕ) (T : List Telling) → AllByRecursion (IsWithin rounds) T → list_to r p (lists_of p T rounds) ≡ list_of p T r
lists_hold p zero rounds T a =
    filter_flat (is_to 0 p) (list_behind p T) (range_with_len 0 rounds)
    ∙ (none_of (λ k. filter (is_to 0 p) (list_behind p T k)) rounds (λ k l. other_round p 0 T k (λ e. absurd (omega arith)))
    ∙ sym (no_list p 0 rounds T a (λ x w e. absurd (let some = w.0 in omega arith))))
lists_hold p (suc r) rounds T a =
    filter_flat (is_to (suc r) p) (list_behind p T) (range_with_len 0 rounds)
    ∙ elim (cases_Bool (nat_lt r rounds)) [
      | inl within ↦
          one_of (λ k. filter (is_to (suc r) p) (list_behind p T k)) r rounds (ltb-true r rounds within) (λ k apart. other_round p (suc r) T k (λ e. apart (let f : k ≡ r = omega arith in f)))
          ∙ own_round p (suc r) T r (let e : r + 1 ≡ suc r = omega arith in e)
      | inr past ↦
          let far : rounds ≤ r = ltb-false r rounds past in
          none_of (λ k. filter (is_to (suc r) p) (list_behind p T k)) rounds (λ k l. other_round p (suc r) T k (λ e. absurd (omega arith)))
          ∙ sym (no_list p (suc r) rounds T a (λ x w e. absurd (let few = w.1 in omega arith)))
    ]

pub his_list : (n c rounds p r : ℕ) (T : ℕ → List Telling) → p < n → p ≢ c → AllByRecursion (IsWithin rounds) (T p) → list_to r p (all_lists n c rounds T) ≡ list_of p (T p) r
his_list n c rounds p r T inside lieutenant a =
    let g : ℕ → List Stroke = λ q. filter (is_to r p) (lists_to c rounds T q) in
    filter_flat (is_to r p) (lists_to c rounds T) (range_with_len 0 n)
    ∙ (one_of g p n inside
    (λ q apart. cond_both (q == c) [] (lists_of q (T q) rounds) (λ xs. filter (is_to r p) xs ≡ []) (λ e. refl)
    (λ e. filter_flat (is_to r p) (list_behind q (T q)) (range_with_len 0 rounds)
    ∙ none_of (λ k. filter (is_to r p) (list_behind q (T q) k)) rounds (λ k l. other_receiver p r q (labels_of (T q)) 0 (arranged is_lie teller (filter (is_in (k + 1)) (firsts is_same [] (T q)))) apart)))
    ∙ (ap (filter (is_to r p)) (cond-false (p == c) [] (lists_of p (T p) rounds) (ne_eqb p c lieutenant)) ∙ lists_hold p r rounds (T p) a))

-- ---- the rows of a list

pub rows_are : (p : ℕ) (labels : Telling → ℕ) (row : ℕ) (xs : List Telling) → map (λ (x : Stroke). x.row) (strokes_from p labels row xs) ≡ range_with_len row (length (strokes_from p labels row xs))
unfolding strokes_from
rows_are p labels row [] = refl
rows_are p labels row (x ∷ xs) = ap (λ ys. row ∷ ys) (rows_are p labels (row + 1) xs)

pub first_rows : (p : ℕ) (labels : Telling → ℕ) (row k : ℕ) (xs : List Telling) → row + k ≡ most_rows → filter has_row (strokes_from p labels row xs) ≡ strokes_from p labels row (take k xs)
unfolding strokes_from
first_rows p labels row zero [] e = refl
first_rows p labels row (suc k) [] e = refl
first_rows p labels row zero (x ∷ xs) e =
    let rest : List Stroke = filter has_row (strokes_from p labels (row + 1) xs) in
    let past : nat_lt row most_rows ≡ false = le-ltb row most_rows (omega arith) in
    ap (λ b. if b then stroke_of p x (labels x) row ∷ rest else rest) past ∙ none_behind (row + 1) xs (omega arith)
  where
    none_behind : (i : ℕ) (ys : List Telling) → most_rows ≤ i → filter has_row (strokes_from p labels i ys) ≡ []
    none_behind i [] l = refl
    none_behind i (y ∷ ys) l =
        let behind : List Stroke = filter has_row (strokes_from p labels (i + 1) ys) in
        ap (λ b. if b then stroke_of p y (labels y) i ∷ behind else behind) (le-ltb i most_rows l) ∙ none_behind (i + 1) ys (omega arith)
first_rows p labels row (suc k) (x ∷ xs) e =
    let rest : List Stroke = filter has_row (strokes_from p labels (row + 1) xs) in
    let within : nat_lt row most_rows ≡ true = lt-ltb row most_rows (omega arith) in
    ap (λ b. if b then stroke_of p x (labels x) row ∷ rest else rest) within ∙ ap (λ ys. stroke_of p x (labels x) row ∷ ys) (first_rows p labels (row + 1) k xs (omega arith))

pub take_strokes : (p : ℕ) (labels : Telling → ℕ) (row k : ℕ) (xs : List Telling) → take k (strokes_from p labels row xs) ≡ strokes_from p labels row (take k xs)
unfolding strokes_from
take_strokes p labels row zero xs = refl
take_strokes p labels row (suc k) [] = refl
take_strokes p labels row (suc k) (x ∷ xs) = ap (λ ys. stroke_of p x (labels x) row ∷ ys) (take_strokes p labels (row + 1) k xs)

pub drop_strokes : (p : ℕ) (labels : Telling → ℕ) (row k : ℕ) (xs : List Telling) → drop k (strokes_from p labels row xs) ≡ strokes_from p labels (row + k) (drop k xs)
unfolding strokes_from
drop_strokes p labels row zero xs = ap (λ (i : ℕ). strokes_from p labels i xs) (let e : row ≡ row + 0 = omega arith in e)
drop_strokes p labels row (suc k) [] = refl
drop_strokes p labels row (suc k) (x ∷ xs) = drop_strokes p labels (row + 1) k xs ∙ ap (λ (i : ℕ). strokes_from p labels i (drop k xs)) (let e : row + 1 + k ≡ row + suc k = omega arith in e)

-- Proves that a test of strokes has the same result as a test of their messages.
pub any_stroke : (f : Stroke → Bool) (g : Telling → Bool) (p : ℕ) (labels : Telling → ℕ) (row : ℕ) (xs : List Telling) → ((x : Telling) (i : ℕ) → f (stroke_of p x (labels x) i) ≡ g x)
    → list_any f (strokes_from p labels row xs) ≡ list_any g xs
unfolding strokes_from
any_stroke f g p labels row [] h = refl
any_stroke f g p labels row (x ∷ xs) h = ap (λ b. b || list_any f (strokes_from p labels (row + 1) xs)) (h x row) ∙ ap (λ b. g x || b) (any_stroke f g p labels (row + 1) xs h)

pub count_strokes : (f : Stroke → Bool) (g : Telling → Bool) (p : ℕ) (labels : Telling → ℕ) (row : ℕ) (xs : List Telling) → ((x : Telling) (i : ℕ) → f (stroke_of p x (labels x) i) ≡ g x)
    → count_by f (strokes_from p labels row xs) ≡ count_by g xs
unfolding strokes_from
count_strokes f g p labels row [] h = refl
count_strokes f g p labels row (x ∷ xs) h =
    let st : Stroke = stroke_of p x (labels x) row in
    let behind : List Stroke = strokes_from p labels (row + 1) xs in
    let one : cond {A = ℕ} (f st) 1 0 ≡ cond {A = ℕ} (g x) 1 0 = ap (λ b. cond {A = ℕ} b 1 0) (h x row) in
    let left = sum_by-cons (λ y. cond {A = ℕ} (f y) 1 0) st behind in
    let right = sum_by-cons (λ y. cond {A = ℕ} (g y) 1 0) x xs in
    let rest = count_strokes f g p labels (row + 1) xs h in
    omega arith

-- Proves that two filters can be exchanged.
pub filters_swap : {A : Type 0} (f g : A → Bool) (xs : List A) → filter f (filter g xs) ≡ filter g (filter f xs)
filters_swap f g [] = refl
filters_swap {A} f g (x ∷ xs) = by_case (f x) (g x) refl refl (filters_swap f g xs)
  where
    kept : (h : A → Bool) (ys : List A) (b : Bool) → h x ≡ b → filter h (x ∷ ys) ≡ (if b then x ∷ filter h ys else filter h ys)
    kept h ys b e = ap (λ c. if c then x ∷ filter h ys else filter h ys) e

    by_case : (a b : Bool) → f x ≡ a → g x ≡ b → filter f (filter g xs) ≡ filter g (filter f xs) → filter f (if b then x ∷ filter g xs else filter g xs) ≡ filter g (if a then x ∷ filter f xs else filter f xs)
    by_case true true ea eb rest = kept f (filter g xs) true ea ∙ (ap (λ ys. x ∷ ys) rest ∙ sym (kept g (filter f xs) true eb))
    by_case true false ea eb rest = rest ∙ sym (kept g (filter f xs) false eb)
    by_case false true ea eb rest = kept f (filter g xs) false ea ∙ rest
    by_case false false ea eb rest = rest

-- Proves that a test that only elements of a list pass counts the same in the list as in the whole.
pub count_within : (f g : Stroke → Bool) (xs : List Stroke) → ((x : Stroke) → f x ≡ true → g x ≡ true) → count_by f xs ≡ count_by f (filter g xs)
count_within f g [] h = refl
count_within f g (x ∷ xs) h =
    let whole = sum_by-cons (λ y. cond {A = ℕ} (f y) 1 0) x xs in
    let rest = count_within f g xs h in
    elim (cases_Bool (g x)) [
      | inl there ↦
          let kept : count_by f (filter g (x ∷ xs)) ≡ count_by f (x ∷ filter g xs) = ap (λ b. count_by f (if b then x ∷ filter g xs else filter g xs)) there in
          let first = sum_by-cons (λ y. cond {A = ℕ} (f y) 1 0) x (filter g xs) in
          omega arith
      | inr not_there ↦
          let kept : count_by f (filter g (x ∷ xs)) ≡ count_by f (filter g xs) = ap (λ b. count_by f (if b then x ∷ filter g xs else filter g xs)) not_there in
          let none : cond {A = ℕ} (f x) 1 0 ≡ 0 = elim (cases_Bool (f x)) [
            | inl passes ↦ absurd (true≢false (sym (h x passes) ∙ not_there))
            | inr fails ↦ ap (λ b. cond {A = ℕ} b 1 0) fails
          ] in
          omega arith
    ]
