-- The list of labels, and the generals who are not on a label, index by index.
use Rattle.std.proofs.Common.{ℕ, zero, suc, ◌+◌, ◌-◌, ◌*◌, ◌<◌, ◌≡◌, Bool, true, false, not, cond, ◌&&◌, ◌||◌, List, [], ◌∷◌, ◌++◌, map, length, refl, sym, ap, ◌∙◌, arith, inl, inr, Some, length-append, add-zero, zero-add}
use Rattle.std.proofs.lemmas.List.{append-nil}
use Rattle.std.proofs.lemmas.Option.{slice_get_within}
use Rattle.std.proofs.lemmas.List.FromFn.{length-range_with_len}
use Rattle.std.specs.Prelude.{filter, ◌==◌, flat_map, slice_get}
use Rattle.std.specs.List.{range_with_len}
use Rattle.std.proofs.lemmas.Bool.Decides.{nat_tests}
use Rattle.std.proofs.lemmas.Bool.{cases_Bool, and_parts, cases_eq, cases_lt, not-true}
use Rattle.std.proofs.lemmas.List.Elements.{filter-append, filter_agree}
use Rattle.label.specs.Labels.{on, is_distinct, generals, others, sequences, lacks, labels}
use Rattle.label.specs.Oral.{AllBelow}
use Rattle.label.proofs.Counting.{on-push, others-length}

-- Returns the labels that extend w by one general.
abbrev pub children : ℕ → ℕ → List ℕ → List (List ℕ)
children n p w = map (λ j. w ++ j ∷ []) (others n (p ∷ w))

tests_one : (b c e f : Bool) → (not (b || c) && (e && not f)) ≡ ((not b && e) && not (c || f))
tests_one true c e f = refl
tests_one false true true f = refl
tests_one false true false f = refl
tests_one false false e f = refl

tests_two : (d o p e : Bool) → ((d && not o) && not (p || e)) ≡ ((d && not p) && not (e || o))
tests_two false o p e = refl
tests_two true true true e = refl
tests_two true true false true = refl
tests_two true true false false = refl
tests_two true false true e = refl
tests_two true false false true = refl
tests_two true false false false = refl

pub eqb_sym : (a b : ℕ) → (a == b) ≡ (b == a)
eqb_sym a b = grind (arith, nat_tests)

pub is_distinct-push : (w : List ℕ) (j : ℕ) → is_distinct (w ++ j ∷ []) ≡ (is_distinct w && not (on w j))
is_distinct-push [] j = refl
is_distinct-push (x ∷ xs) j =
    rw (on-push xs j x, is_distinct-push xs j, eqb_sym j x) (tests_one (on xs x) (x == j) (is_distinct xs) (on xs j))

lacks-push : (p : ℕ) (w : List ℕ) (j : ℕ) → lacks p (w ++ j ∷ []) ≡ (lacks p w && not (on (p ∷ w) j))
lacks-push p w j = rw (is_distinct-push w j, on-push w j p, eqb_sym j p) (tests_two (is_distinct w) (on w j) (on w p) (p == j))

push_cases : (a b : Bool) (y : List ℕ) (ys zs : List (List ℕ)) → zs ≡ cond a ys [] → cond (a && not b) (y ∷ zs) zs ≡ cond a (cond (not b) (y ∷ ys) ys) []
push_cases true true y ys zs e = e
push_cases true false y ys zs e = ap (λ vs. y ∷ vs) e
push_cases false b y ys zs e = e

map_cond : (f : ℕ → List ℕ) (b : Bool) (x : ℕ) (xs : List ℕ) → map f (cond b (x ∷ xs) xs) ≡ cond b (f x ∷ map f xs) (map f xs)
map_cond f true x xs = refl
map_cond f false x xs = refl

-- Proves that among the lists that extend w by one element, the labels are its children if w is a label.
push_test : (p : ℕ) (w : List ℕ) (xs : List ℕ) → filter (lacks p) (map (λ j. w ++ j ∷ []) xs) ≡ cond (lacks p w) (map (λ j. w ++ j ∷ []) (filter (λ j. not (on (p ∷ w) j)) xs)) []
push_test p w [] = elim (lacks p w) as (λ b. [] ≡ cond {A = List (List ℕ)} b [] []) [ true ↦ refl | false ↦ refl ]
push_test p w (x ∷ xs) =
    rw (lacks-push p w x, map_cond (λ j. w ++ j ∷ []) (not (on (p ∷ w) x)) x (filter (λ j. not (on (p ∷ w) j)) xs))
    (push_cases (lacks p w) (on (p ∷ w) x) (w ++ x ∷ []) (map (λ j. w ++ j ∷ []) (filter (λ j. not (on (p ∷ w) j)) xs)) (filter (lacks p) (map (λ j. w ++ j ∷ []) xs)) (push_test p w xs))

prolong_cases : (f : List ℕ → List (List ℕ)) (b : Bool) (w : List ℕ) (ws : List (List ℕ)) → cond b (f w) [] ++ flat_map f ws ≡ flat_map f (cond b (w ∷ ws) ws)
prolong_cases f true w ws = refl
prolong_cases f false w ws = refl

prolong : (n p : ℕ) (ws : List (List ℕ)) → filter (lacks p) (flat_map (λ w. map (λ j. w ++ j ∷ []) (generals n)) ws) ≡ flat_map (children n p) (filter (lacks p) ws)
prolong n p [] = refl
prolong n p (w ∷ ws) =
    filter-append (lacks p) (map (λ j. w ++ j ∷ []) (generals n)) (flat_map (λ v. map (λ j. v ++ j ∷ []) (generals n)) ws)
    ∙ (ap (λ vs. vs ++ filter (lacks p) (flat_map (λ v. map (λ j. v ++ j ∷ []) (generals n)) ws)) (push_test p w (generals n))
    ∙ (ap (λ vs. cond (lacks p w) (children n p w) [] ++ vs) (prolong n p ws)
    ∙ prolong_cases (children n p) (lacks p w) w (filter (lacks p) ws)))

cons_map : (c : ℕ) (v : List ℕ) (xs : List ℕ) (ws : List (List ℕ)) → map (λ u. c ∷ u) (map (λ j. v ++ j ∷ []) xs ++ ws) ≡ map (λ j. (c ∷ v) ++ j ∷ []) xs ++ map (λ u. c ∷ u) ws
cons_map c v [] ws = refl
cons_map c v (x ∷ xs) ws = ap (λ us. ((c ∷ v) ++ x ∷ []) ∷ us) (cons_map c v xs ws)

cons_first : (n c : ℕ) (vs : List (List ℕ)) → map (λ v. c ∷ v) (flat_map (λ w. map (λ j. w ++ j ∷ []) (generals n)) vs) ≡ flat_map (λ w. map (λ j. w ++ j ∷ []) (generals n)) (map (λ v. c ∷ v) vs)
cons_first n c [] = refl
cons_first n c (v ∷ vs) =
    cons_map c v (generals n) (flat_map (λ w. map (λ j. w ++ j ∷ []) (generals n)) vs)
    ∙ ap (λ us. map (λ j. (c ∷ v) ++ j ∷ []) (generals n) ++ us) (cons_first n c vs)

-- Proves that the labels of the next length are the children of the labels of this length.
pub labels-next : (n c p k : ℕ) → labels n c p (suc (suc k)) ≡ flat_map (children n p) (labels n c p (suc k))
unfolding labels
labels-next n c p k = ap (filter (lacks p)) (cons_first n c (sequences n k)) ∙ prolong n p (map (λ v. c ∷ v) (sequences n k))

-- Proves how the first of two joined lists is read.
pub get_left : {A : Type 0} (xs ys : List A) (t : ℕ) → t < length xs → slice_get (xs ++ ys) t ≡ slice_get xs t
get_left [] ys t l = absurd (omega arith)
get_left (x ∷ xs) ys zero l = refl
get_left (x ∷ xs) ys (suc t) l = get_left xs ys t (omega arith)

-- Proves how the second of two joined lists is read.
pub get_right : {A : Type 0} (xs ys : List A) (i t : ℕ) → i ≡ length xs + t → slice_get (xs ++ ys) i ≡ slice_get ys t
get_right [] ys i t e = let h : i ≡ t = omega arith in ap (slice_get ys) h
get_right (x ∷ xs) ys zero t e = absurd (omega arith)
get_right (x ∷ xs) ys (suc i) t e = get_right xs ys i t (omega arith)

-- Proves how an element is read from a list made of pieces of equal length: the piece q, and the index t in it.
pub pieces-get : {A B : Type 0} (f : A → List B) (s : ℕ) (xs : List A) → ((k : ℕ) (x : A) → slice_get xs k ≡ Some x → length (f x) ≡ s) → (q t : ℕ) (x : A) → slice_get xs q ≡ Some x → t < s → slice_get (flat_map f xs) (q * s + t) ≡ slice_get (f x) t
pieces-get f s [] same q t x h l = cc
pieces-get f s (y ∷ ys) same zero t x h l =
    let e : y ≡ x = cc in
    let long : length (f y) ≡ s = same 0 y refl in
    let i : 0 * s + t ≡ t = omega arith in
    rw i (get_left (f y) (flat_map f ys) t (omega arith) ∙ ap (λ v. slice_get (f v) t) e)
pieces-get f s (y ∷ ys) same (suc q) t x h l =
    let long : length (f y) ≡ s = same 0 y refl in
    get_right (f y) (flat_map f ys) (suc q * s + t) (q * s + t) (omega arith) ∙ pieces-get f s ys (λ k v e. same (suc k) v e) q t x h l

-- Proves the length of a list made of pieces of equal length.
pub pieces-length : {A B : Type 0} (f : A → List B) (s : ℕ) (xs : List A) → ((k : ℕ) (x : A) → slice_get xs k ≡ Some x → length (f x) ≡ s) → length (flat_map f xs) ≡ length xs * s
pieces-length f s [] same = omega arith
pieces-length f s (y ∷ ys) same =
    let long : length (f y) ≡ s = same 0 y refl in
    let rest : length (flat_map f ys) ≡ length ys * s = pieces-length f s ys (λ k v e. same (suc k) v e) in
    omega (arith, length-append (f y) (flat_map f ys))

-- The generals who are not on a list, one after another.
pub range_push : (a n : ℕ) → range_with_len a (suc n) ≡ range_with_len a n ++ (a + n) ∷ []
range_push a zero = rw add-zero refl
range_push a (suc n) =
    let s : (a + 1) + n ≡ a + suc n = omega arith in
    ap (λ xs. a ∷ xs) (range_push (a + 1) n ∙ ap (λ x. range_with_len (a + 1) n ++ x ∷ []) s)

-- Proves that one more general is added if he is not on the list.
pub others-more : (w : List ℕ) (j : ℕ) → others (suc j) w ≡ others j w ++ cond (not (on w j)) (j ∷ []) []
others-more w j =
    ap (filter (λ i. not (on w i))) (range_push 0 j ∙ ap (λ x. range_with_len 0 j ++ x ∷ []) (zero-add j))
    ∙ filter-append (λ i. not (on w i)) (range_with_len 0 j) (j ∷ [])

-- Proves the result if he is on the list.
pub others-more_no : (w : List ℕ) (j : ℕ) → on w j ≡ true → others (suc j) w ≡ others j w
others-more_no w j h = others-more w j ∙ (ap (λ (b : Bool). others j w ++ cond (not b) (j ∷ []) []) h ∙ append-nil (others j w))

-- Proves the result if he is not on the list.
pub others-more_yes : (w : List ℕ) (j : ℕ) → on w j ≡ false → others (suc j) w ≡ others j w ++ j ∷ []
others-more_yes w j h = others-more w j ∙ ap (λ (b : Bool). others j w ++ cond (not b) (j ∷ []) []) h

-- Proves that a general who is not on v comes after the lower ones.
pub others-at : (n : ℕ) (v : List ℕ) (j : ℕ) → j < n → on v j ≡ false → slice_get (others n v) (length (others j v)) ≡ Some j
others-at zero v j l o = absurd (omega arith)
others-at (suc n) v j l o =
    elim (cases_eq j n) [
      | inl same ↦
          rw same (ap (λ xs. slice_get xs (length (others n v))) (others-more_yes v n (rw (← same) o)) ∙ get_right (others n v) (n ∷ []) (length (others n v)) 0 (omega arith))
      | inr ne ↦
          let before : slice_get (others n v) (length (others j v)) ≡ Some j = others-at n v j (omega arith) o in
          elim (cases_Bool (on v n)) [
            | inl in_it ↦ ap (λ xs. slice_get xs (length (others j v))) (others-more_no v n in_it) ∙ before
            | inr out ↦ ap (λ xs. slice_get xs (length (others j v))) (others-more_yes v n out) ∙ (get_left (others n v) (n ∷ []) (length (others j v)) (slice_get_within (others n v) (length (others j v)) j before) ∙ before)
          ]
    ]

last_place : (n t j : ℕ) → slice_get (n ∷ []) t ≡ Some j → (t ≡ 0) × (j ≡ n)
last_place n zero j e = (refl, cc)
last_place n (suc t) j e = cc

-- Proves that he is only at this index.
pub others-place : (n : ℕ) (v : List ℕ) (t j : ℕ) → slice_get (others n v) t ≡ Some j → t ≡ length (others j v)
others-place zero v t j e = cc
others-place (suc n) v t j e =
    elim (cases_Bool (on v n)) [
      | inl in_it ↦ others-place n v t j (sym (ap (λ xs. slice_get xs t) (others-more_no v n in_it)) ∙ e)
      | inr out ↦
          let e' : slice_get (others n v ++ n ∷ []) t ≡ Some j = sym (ap (λ xs. slice_get xs t) (others-more_yes v n out)) ∙ e in
          elim (cases_lt t (length (others n v))) [
            | inl before ↦ others-place n v t j (sym (get_left (others n v) (n ∷ []) t before) ∙ e')
            | inr behind ↦
                let at = last_place n (t - length (others n v)) j (sym (get_right (others n v) (n ∷ []) t (t - length (others n v)) (omega arith)) ∙ e') in
                let zero_here : t - length (others n v) ≡ 0 = at.0 in
                rw at.1 (omega arith)
          ]
    ]

-- How many generals are not on a list.
or_swap : (a b : Bool) → (a || b) ≡ (b || a)
or_swap true true = refl
or_swap true false = refl
or_swap false true = refl
or_swap false false = refl

pub all_kept : (xs : List ℕ) → filter (λ j. not (on [] j)) xs ≡ xs
all_kept [] = refl
all_kept (x ∷ xs) = ap (λ ys. x ∷ ys) (all_kept xs)

others-cons : (n : ℕ) (x : ℕ) (v : List ℕ) → others n (v ++ x ∷ []) ≡ others n (x ∷ v)
others-cons n x v = filter_agree (λ j. not (on (v ++ x ∷ []) j)) (λ j. not (on (x ∷ v) j)) (λ j. ap not (on-push v x j ∙ or_swap (on v j) (x == j))) (generals n)

-- Proves that the generals on a list and those not on it are all generals.
pub others-count : (n : ℕ) (v : List ℕ) → is_distinct v ≡ true → AllBelow n v → length (others n v) + length v ≡ n
others-count n [] d b = rw (all_kept (generals n)) (omega (arith, length-range_with_len 0 n))
others-count n (x ∷ v) d b =
    let both = and_parts (not (on v x)) (is_distinct v) d in
    let ih : length (others n v) + length v ≡ n = others-count n v both.1 b.1 in
    let one : length (others n v) ≡ 1 + length (others n (v ++ x ∷ [])) = others-length n v x b.0 (not-true (on v x) both.0) in
    let same : length (others n (v ++ x ∷ [])) ≡ length (others n (x ∷ v)) = ap length (others-cons n x v) in
    omega arith
