-- The places of a table to fill in, in order.
use Rattle.std.proofs.Common.{ℕ, zero, suc, ◌+◌, ◌-◌, ◌<◌, ◌≤◌, ◌≡◌, ◌≢◌, Bool, true, false, not, ◌&&◌, List, [], ◌∷◌, ◌++◌, length, get_or, refl, sym, ap, ◌∙◌, arith, inl, inr, length-append, append_assoc, append-nil}
use Rattle.std.specs.Prelude.{◌==◌, nat_lt, nat_le, bytes_eq}
use Rattle.std.specs.List.{flat_map, range_with_len, list_all, list_any, AllByRecursion}
use Rattle.std.proofs.lemmas.Bool.{cases_Bool, and_parts, and_from, not-true, or_left, or_right, or_cases, eq-eqb, eqb-true, lt-ltb, ltb-true, le-leb, leb-true, true≢false}
use Rattle.std.proofs.lemmas.List.{get_or_append_left, get_or_push}
use Rattle.std.proofs.lemmas.List.Folds.{list_any-append}
use Rattle.std.proofs.lemmas.Slice.Eq.{bytes_eq-Decides}
use Rattle.label.specs.Labels.{on, others, is_distinct}
use Rattle.label.proofs.Counting.{distinct-push, others-on, range-distinct, range-on, range-on_within, others-distinct}
use Rattle.label.proofs.Counts.{among}
use Rattle.label.specs.Space.{begins_with}
pub use Rattle.book.specs.Places.{Place, places, places_at, places_from}
use Rattle.book.proofs.LabelLemmas.{twice}
use Rattle.label.proofs.Places.{all-append}

-- What is true in each part.
pub all_flat : {A : Type 0} (P : A → Type 0) (F : ℕ → List A) (xs : List ℕ) → ((x : ℕ) → on xs x ≡ true → AllByRecursion P (F x)) → AllByRecursion P (flat_map F xs)
all_flat P F [] h = tt
all_flat P F (x ∷ xs) h = all-append P (F x) (flat_map F xs) (h x (or_left (x == x) (on xs x) (eq-eqb x x refl))) (all_flat P F xs (λ y i. h y (or_right (x == y) (on xs y) i)))

-- No place occurs twice.
abbrev pub AllDiffer : List Place → Type 0
AllDiffer [] = Unit {0}
AllDiffer (x ∷ xs) = AllByRecursion (λ y. x ≢ y) xs × AllDiffer xs

differ_append : (xs ys : List Place) → AllDiffer xs → AllDiffer ys → AllByRecursion (λ x. AllByRecursion (λ y. x ≢ y) ys) xs → AllDiffer (xs ++ ys)
differ_append [] ys a b h = b
differ_append (x ∷ xs) ys a b h = (all-append (λ y. x ≢ y) xs ys a.0 h.0, differ_append xs ys a.1 b h.1)

weaker : {A : Type 0} (P Q : A → Type 0) (xs : List A) → ((x : A) → P x → Q x) → AllByRecursion P xs → AllByRecursion Q xs
weaker P Q [] h a = tt
weaker P Q (x ∷ xs) h a = (h x a.0, weaker P Q xs h a.1)

-- Parts that a number distinguishes.
differ_flat : (F : ℕ → List Place) (K : Place → ℕ) (xs : List ℕ) → is_distinct xs ≡ true → ((x : ℕ) → AllByRecursion (λ z. K z ≡ x) (F x)) → ((x : ℕ) → AllDiffer (F x)) → AllDiffer (flat_map F xs)
differ_flat F K [] d k h = tt
differ_flat F K (x ∷ xs) d k h =
    let both = and_parts (not (on xs x)) (is_distinct xs) d in
    let fresh : on xs x ≡ false = not-true (on xs x) both.0 in
    let behind : AllByRecursion (λ z. on xs (K z) ≡ true) (flat_map F xs) = all_flat (λ z. on xs (K z) ≡ true) F xs (λ y i. weaker (λ z. K z ≡ y) (λ z. on xs (K z) ≡ true) (F y) (λ z e. ap (on xs) e ∙ i) (k y)) in
    differ_append (F x) (flat_map F xs) (h x) (differ_flat F K xs both.1 k h)
    (weaker (λ z. K z ≡ x) (λ z. AllByRecursion (λ y. z ≢ y) (flat_map F xs)) (F x)
    (λ z e. weaker (λ y. on xs (K y) ≡ true) (λ y. z ≢ y) (flat_map F xs) (λ y i same. true≢false (sym i ∙ (ap (λ u. on xs (K u)) (sym same) ∙ (ap (on xs) e ∙ fresh)))) behind)
    (k x))

-- Labels that extend one begin with its generals.
kept_front : (n k : ℕ) (w : List ℕ) (i : ℕ) → i < length w → AllByRecursion (λ z. get_or z.0 i 0 ≡ get_or w i 0) (places_from n k w)
kept_front n zero w i l = all_flat (λ z. get_or z.0 i 0 ≡ get_or w i 0) (λ p. (w, p) ∷ []) (others n w) (λ p on. (refl, tt))
kept_front n (suc k) w i l =
    all_flat (λ z. get_or z.0 i 0 ≡ get_or w i 0) (λ j. places_from n k (w ++ j ∷ [])) (others n w)
    (λ j on. weaker (λ z. get_or z.0 i 0 ≡ get_or (w ++ j ∷ []) i 0) (λ z. get_or z.0 i 0 ≡ get_or w i 0) (places_from n k (w ++ j ∷ []))
    (λ z e. e ∙ get_or_append_left w (j ∷ []) 0 i l) (kept_front n k (w ++ j ∷ []) i (omega (arith, length-append w (j ∷ [])))))

-- They have this many more generals.
kept_length : (n k : ℕ) (w : List ℕ) → AllByRecursion (λ z. length z.0 ≡ length w + k) (places_from n k w)
kept_length n zero w = all_flat (λ z. length z.0 ≡ length w + 0) (λ p. (w, p) ∷ []) (others n w) (λ p on. ((omega arith), tt))
kept_length n (suc k) w =
    all_flat (λ z. length z.0 ≡ length w + suc k) (λ j. places_from n k (w ++ j ∷ [])) (others n w)
    (λ j on. weaker (λ z. length z.0 ≡ length (w ++ j ∷ []) + k) (λ z. length z.0 ≡ length w + suc k) (places_from n k (w ++ j ∷ []))
    (λ z e. omega (arith, length-append w (j ∷ []))) (kept_length n k (w ++ j ∷ [])))

differ_from : (n k : ℕ) (w : List ℕ) → AllDiffer (places_from n k w)
differ_from n zero w = differ_flat (λ p. (w, p) ∷ []) (λ z. z.1) (others n w) (others-distinct n w) (λ p. (refl, tt)) (λ p. (tt, tt))
differ_from n (suc k) w =
    differ_flat (λ j. places_from n k (w ++ j ∷ [])) (λ z. get_or z.0 (length w) 0) (others n w) (others-distinct n w)
    (λ j. weaker (λ z. get_or z.0 (length w) 0 ≡ get_or (w ++ j ∷ []) (length w) 0) (λ z. get_or z.0 (length w) 0 ≡ j) (places_from n k (w ++ j ∷ []))
    (λ z e. e ∙ get_or_push w j 0 (length w) refl) (kept_front n k (w ++ j ∷ []) (length w) (omega (arith, length-append w (j ∷ [])))))
    (λ j. differ_from n k (w ++ j ∷ []))

-- No place of a table occurs twice.
pub places_differ : (n m c : ℕ) → AllDiffer (places n m c)
places_differ n m c =
    differ_flat (λ k. places_from n k (c ∷ [])) (λ z. length z.0 - 1) (range_with_len 0 (m + 1)) (range-distinct 0 (m + 1))
    (λ k. weaker (λ z. length z.0 ≡ length (c ∷ []) + k) (λ z. length z.0 - 1 ≡ k) (places_from n k (c ∷ [])) (λ z e. omega arith) (kept_length n k (c ∷ [])))
    (λ k. differ_from n k (c ∷ []))

-- The conditions of a place on its label.
abbrev pub fits : ℕ → ℕ → ℕ → List ℕ → Bool
fits n m c w = is_distinct w && begins_with c w && list_all (λ x. nat_lt x n) w && nat_le (length w) (m + 1)

abbrev pub is_place_of : ℕ → ℕ → ℕ → List ℕ → ℕ → Bool
is_place_of n m c w p = fits n m c w && nat_lt p n && not (on w p)

-- A label so far, to which k generals can be appended.
pub record Begun (n m c : ℕ) (w : List ℕ) (k : ℕ) : Type 0 where
  pub distinct : is_distinct w ≡ true
  pub first : begins_with c w ≡ true
  pub below : list_all (λ x. nat_lt x n) w ≡ true
  pub short : length w + k ≤ m + 1

begun_whole : (n m c : ℕ) (w : List ℕ) → Begun n m c w 0 → fits n m c w ≡ true
begun_whole n m c w b =
    let short = b.short in
    and_from (is_distinct w && begins_with c w && list_all (λ x. nat_lt x n) w) (nat_le (length w) (m + 1))
    (and_from (is_distinct w && begins_with c w) (list_all (λ x. nat_lt x n) w) (and_from (is_distinct w) (begins_with c w) b.distinct b.first) b.below) (le-leb (length w) (m + 1) (omega arith))

begins_push : (c : ℕ) (w : List ℕ) (j : ℕ) → begins_with c w ≡ true → begins_with c (w ++ j ∷ []) ≡ true
begins_push c [] j h = absurd (true≢false (sym h))
begins_push c (x ∷ xs) j h = h

below_push : (n : ℕ) (w : List ℕ) (j : ℕ) → list_all (λ x. nat_lt x n) w ≡ true → j < n → list_all (λ x. nat_lt x n) (w ++ j ∷ []) ≡ true
below_push n [] j h l = and_from (nat_lt j n) true (lt-ltb j n l) refl
below_push n (x ∷ xs) j h l = let both = and_parts (nat_lt x n) (list_all (λ x. nat_lt x n) xs) h in and_from (nat_lt x n) (list_all (λ x. nat_lt x n) (xs ++ j ∷ [])) both.0 (below_push n xs j both.1 l)

begun_more : (n m c : ℕ) (w : List ℕ) (k j : ℕ) → Begun n m c w (suc k) → j < n → on w j ≡ false → Begun n m c (w ++ j ∷ []) k
begun_more n m c w k j b l off = record {
  distinct = distinct-push w j b.distinct off;
  first = begins_push c w j b.first;
  below = below_push n w j b.below l;
  short = let s = b.short in omega (arith, length-append w (j ∷ []));
}

are_places_from : (n m c k : ℕ) (w : List ℕ) → Begun n m c w k → AllByRecursion (λ z. is_place_of n m c z.0 z.1 ≡ true) (places_from n k w)
are_places_from n m c zero w b =
    all_flat (λ z. is_place_of n m c z.0 z.1 ≡ true) (λ p. (w, p) ∷ []) (others n w)
    (λ p i.
    let there = others-on n w p i in
    (and_from (fits n m c w && nat_lt p n) (not (on w p)) (and_from (fits n m c w) (nat_lt p n) (begun_whole n m c w b) (lt-ltb p n there.0)) (rw there.1 refl), tt))
are_places_from n m c (suc k) w b =
    all_flat (λ z. is_place_of n m c z.0 z.1 ≡ true) (λ j. places_from n k (w ++ j ∷ [])) (others n w)
    (λ j i. let there = others-on n w j i in are_places_from n m c k (w ++ j ∷ []) (begun_more n m c w k j b there.0 there.1))

-- All are places of the campaign.
pub are_places : (n m c : ℕ) → c < n → AllByRecursion (λ z. is_place_of n m c z.0 z.1 ≡ true) (places n m c)
are_places n m c l =
    all_flat (λ z. is_place_of n m c z.0 z.1 ≡ true) (λ k. places_from n k (c ∷ [])) (range_with_len 0 (m + 1))
    (λ k i.
    let few : k < 0 + (m + 1) = range-on_within 0 (m + 1) k i in
    are_places_from n m c k (c ∷ []) (record { distinct = refl; first = eq-eqb c c refl; below = and_from (nat_lt c n) true (lt-ltb c n l) refl; short = omega arith }))

-- The place is one of these.
abbrev pub is_in : List ℕ → ℕ → List Place → Bool
is_in w p zs = list_any (λ z. z.1 == p && bytes_eq z.0 w) zs

any_flat : (t : Place → Bool) (F : ℕ → List Place) (xs : List ℕ) (x : ℕ) → on xs x ≡ true → list_any t (F x) ≡ true → list_any t (flat_map F xs) ≡ true
any_flat t F [] x i h = absurd (true≢false (sym i))
any_flat t F (y ∷ ys) x i h =
    list_any-append t (F y) (flat_map F ys) ∙ elim (or_cases (y == x) (on ys x) i) [
      | inl here ↦ (let same : y ≡ x = eqb-true y x here in or_left (list_any t (F y)) (list_any t (flat_map F ys)) (ap (λ z. list_any t (F z)) same ∙ h))
      | inr there ↦ or_right (list_any t (F y)) (list_any t (flat_map F ys)) (any_flat t F ys x there h)
    ]

itself : (w : List ℕ) (p : ℕ) → is_in w p ((w, p) ∷ []) ≡ true
itself w p = or_left (p == p && bytes_eq w w) false (and_from (p == p) (bytes_eq w w) (eq-eqb p p refl) ((bytes_eq-Decides w w).1 refl))

-- A label that extends one is found.
found_from : (n : ℕ) (js w : List ℕ) (p : ℕ) → list_all (λ x. nat_lt x n) js ≡ true → is_distinct (w ++ js) ≡ true → p < n → on (w ++ js) p ≡ false → is_in (w ++ js) p (places_from n (length js) w) ≡ true
found_from n [] w p below d l off =
    rw append-nil (any_flat (λ z. z.1 == p && bytes_eq z.0 w) (λ q. (w, q) ∷ []) (others n w) p (among n w p l (sym (ap (λ v. on v p) (append-nil w)) ∙ off)) (itself w p))
found_from n (j ∷ js) w p below d l off =
    let both = and_parts (nat_lt j n) (list_all (λ x. nat_lt x n) js) below in
    let same : (w ++ j ∷ []) ++ js ≡ w ++ j ∷ js = append_assoc w (j ∷ []) js in
    let fresh : on w j ≡ false = elim (cases_Bool (on w j)) [ inl it ↦ absurd (true≢false (sym d ∙ twice w j js it)) | inr gone ↦ gone ] in
    any_flat (λ z. z.1 == p && bytes_eq z.0 (w ++ j ∷ js)) (λ i. places_from n (length js) (w ++ i ∷ [])) (others n w) j (among n w j (ltb-true j n both.0) fresh)
    (rw (← same) (found_from n js (w ++ j ∷ []) p both.1 (ap is_distinct same ∙ d) l (ap (λ v. on v p) same ∙ off)))

-- Each place of the campaign is found.
pub all_found : (n m c : ℕ) (w : List ℕ) (p : ℕ) → is_place_of n m c w p ≡ true → is_in w p (places n m c) ≡ true
all_found n m c [] p e = absurd (true≢false (sym e))
all_found n m c (x ∷ js) p e =
    let off = and_parts (fits n m c (x ∷ js) && nat_lt p n) (not (on (x ∷ js) p)) e in
    let general = and_parts (fits n m c (x ∷ js)) (nat_lt p n) off.0 in
    let short = and_parts (is_distinct (x ∷ js) && begins_with c (x ∷ js) && list_all (λ y. nat_lt y n) (x ∷ js)) (nat_le (length (x ∷ js)) (m + 1)) general.0 in
    let below = and_parts (is_distinct (x ∷ js) && begins_with c (x ∷ js)) (list_all (λ y. nat_lt y n) (x ∷ js)) short.0 in
    let first = and_parts (is_distinct (x ∷ js)) (begins_with c (x ∷ js)) below.0 in
    let same : x ≡ c = eqb-true x c first.1 in
    let few : length (x ∷ js) ≤ m + 1 = leb-true (length (x ∷ js)) (m + 1) short.1 in
    let all : is_in (x ∷ js) p (places_from n (length js) (x ∷ [])) ≡ true = found_from n js (x ∷ []) p (and_parts (nat_lt x n) (list_all (λ y. nat_lt y n) js) below.1).1 first.0 (ltb-true p n general.1) (not-true (on (x ∷ js) p) off.1) in
    any_flat (λ z. z.1 == p && bytes_eq z.0 (x ∷ js)) (λ k. places_from n k (c ∷ [])) (range_with_len 0 (m + 1)) (length js) (range-on 0 (m + 1) (length js) (omega arith) (omega arith))
    (rw (← same) all)
