-- The order of rows: sorting them keeps all of them.
use Rattle.std.proofs.Common.{ℕ, suc, ◌+◌, ◌<◌, ◌≤◌, ◌≡◌, Bool, true, false, not, ◌||◌, cond, List, [], ◌∷◌, ◌++◌, length, get_or, refl, sym, ap, ◌∙◌, append_assoc, append-nil, arith, inl, inr}
use Rattle.std.proofs.lemmas.Bool.{cases_Bool, cond_both, eqb-true, or_cases, or_left, or_right}
use Rattle.std.proofs.lemmas.List.{take_more}
use Rattle.std.proofs.lemmas.List.Elements.{filter-append}
use Rattle.std.proofs.lemmas.List.Filters.{sum_by-filter_both}
use Rattle.std.proofs.lemmas.List.Folds.{list_any-append}
use Rattle.std.proofs.lemmas.List.Sums.{sum_by-append, sum_by-cons}
use Rattle.std.specs.List.{AllByRecursion, list_any}
use Rattle.std.specs.Prelude.{◌==◌, nat_le, count_by, take, filter, if◌then◌else◌}
use Rattle.label.proofs.Places.{all-append}
use Rattle.show_diagram.specs.Order.{arranged, firsts, is_by_one, lies_first, most_rows, repeats}

or_none : (b : Bool) → (b || false) ≡ b
or_none true = refl
or_none false = refl

-- ---- one more element at the end

pub firsts_push : {A : Type 0} (same : A → A → Bool) (before xs : List A) (x : A)
    → firsts same before (xs ++ x ∷ []) ≡ firsts same before xs ++ (if list_any (same x) (before ++ xs) then [] else x ∷ [])
unfolding firsts
firsts_push same before [] x =
    append-nil (if list_any (same x) before then [] else x ∷ []) ∙ ap (λ ys. if list_any (same x) ys then [] else x ∷ []) (sym (append-nil before))
firsts_push {A} same before (y ∷ ys) x =
    let head : List A = if list_any (same y) before then [] else y ∷ [] in
    ap (λ zs. head ++ zs) (firsts_push same (before ++ y ∷ []) ys x)
    ∙ (sym (append_assoc head (firsts same (before ++ y ∷ []) ys) (if list_any (same x) ((before ++ y ∷ []) ++ ys) then [] else x ∷ []))
    ∙ ap (λ zs. (head ++ firsts same (before ++ y ∷ []) ys) ++ (if list_any (same x) zs then [] else x ∷ [])) (append_assoc before (y ∷ []) ys))

pub repeats_push : {A : Type 0} (same : A → A → Bool) (before xs : List A) (x : A)
    → repeats same before (xs ++ x ∷ []) ≡ repeats same before xs ++ (if list_any (same x) (before ++ xs) then x ∷ [] else [])
unfolding repeats
repeats_push same before [] x =
    append-nil (if list_any (same x) before then x ∷ [] else []) ∙ ap (λ ys. if list_any (same x) ys then x ∷ [] else []) (sym (append-nil before))
repeats_push {A} same before (y ∷ ys) x =
    let head : List A = if list_any (same y) before then y ∷ [] else [] in
    ap (λ zs. head ++ zs) (repeats_push same (before ++ y ∷ []) ys x)
    ∙ (sym (append_assoc head (repeats same (before ++ y ∷ []) ys) (if list_any (same x) ((before ++ y ∷ []) ++ ys) then x ∷ [] else []))
    ∙ ap (λ zs. (head ++ repeats same (before ++ y ∷ []) ys) ++ (if list_any (same x) zs then x ∷ [] else [])) (append_assoc before (y ∷ []) ys))

-- Proves that one more element continues the first occurrences among the elements so far.
pub firsts_more : {A : Type 0} (same : A → A → Bool) (xs : List A) (i : ℕ) (x d : A) (b : Bool) (old new : List A) → i < length xs → x ≡ get_or xs i d
    → b ≡ list_any (same x) (take i xs) → old ≡ firsts same [] (take i xs) → new ≡ old ++ cond b [] (x ∷ []) → new ≡ firsts same [] (take (i + 1) xs)
firsts_more same xs i x d b old new within is known so next =
    next
    ∙ (ap (λ c. old ++ cond c [] (x ∷ [])) known
    ∙ (ap (λ ys. ys ++ cond (list_any (same x) (take i xs)) [] (x ∷ [])) so
    ∙ sym (ap (firsts same []) (take_more xs i d within ∙ ap (λ y. take i xs ++ y ∷ []) (sym is)) ∙ firsts_push same [] (take i xs) x)))

pub repeats_more : {A : Type 0} (same : A → A → Bool) (xs : List A) (i : ℕ) (x d : A) (b : Bool) (old new : List A) → i < length xs → x ≡ get_or xs i d
    → b ≡ list_any (same x) (take i xs) → old ≡ repeats same [] (take i xs) → new ≡ old ++ cond b (x ∷ []) [] → new ≡ repeats same [] (take (i + 1) xs)
repeats_more same xs i x d b old new within is known so next =
    next
    ∙ (ap (λ c. old ++ cond c (x ∷ []) []) known
    ∙ (ap (λ ys. ys ++ cond (list_any (same x) (take i xs)) (x ∷ []) []) so
    ∙ sym (ap (repeats same []) (take_more xs i d within ∙ ap (λ y. take i xs ++ y ∷ []) (sym is)) ∙ repeats_push same [] (take i xs) x)))

-- ---- the first element of each sender

-- Returns whether one of the elements is from sender j.
abbrev pub any_of : {A : Type 0} → (A → ℕ) → ℕ → List A → Bool
any_of teller j xs = list_any (λ z. j == teller z) xs

first_any : {A : Type 0} (teller : A → ℕ) (j : ℕ) (y : A) (seen : List A)
    → (any_of teller j seen || any_of teller j (if any_of teller (teller y) seen then [] else y ∷ [])) ≡ (any_of teller j seen || j == teller y)
first_any teller j y seen = elim (cases_Bool (any_of teller (teller y) seen)) [
  | inl there ↦ elim (cases_Bool (j == teller y)) [
    | inl same ↦
        let e : j ≡ teller y = eqb-true j (teller y) same in
        let his : any_of teller j seen ≡ true = ap (λ (i : ℕ). any_of teller i seen) e ∙ there in
        ap (λ b. b || any_of teller j (if any_of teller (teller y) seen then [] else y ∷ [])) his ∙ sym (ap (λ b. b || j == teller y) his)
    | inr other ↦
        ap (λ b. any_of teller j seen || any_of teller j (if b then [] else y ∷ [])) there ∙ ap (λ b. any_of teller j seen || b) (sym other)
  ]
  | inr none ↦
      ap (λ b. any_of teller j seen || any_of teller j (if b then [] else y ∷ [])) none ∙ ap (λ b. any_of teller j seen || b) (or_none (j == teller y))
]

firsts_any_from : {A : Type 0} (teller : A → ℕ) (j : ℕ) (before xs : List A) → (any_of teller j before || any_of teller j (firsts (is_by_one teller) before xs)) ≡ any_of teller j (before ++ xs)
unfolding firsts
firsts_any_from teller j before [] = or_none (any_of teller j before) ∙ ap (any_of teller j) (sym (append-nil before))
firsts_any_from {A} teller j before (y ∷ ys) =
    let p : A → Bool = λ z. j == teller z in
    let head : List A = if list_any (is_by_one teller y) before then [] else y ∷ [] in
    let rest : List A = firsts (is_by_one teller) (before ++ y ∷ []) ys in
    ap (λ b. list_any p before || b) (list_any-append p head rest)
    ∙ (or_assoc (list_any p before) (list_any p head) (list_any p rest)
    ∙ (ap (λ b. b || list_any p rest) (first_any teller j y before ∙ sym (list_any-append p before (y ∷ []) ∙ ap (λ b. list_any p before || b) (or_none (p y))))
    ∙ (firsts_any_from teller j (before ++ y ∷ []) ys ∙ ap (list_any p) (append_assoc before (y ∷ []) ys))))
  where
    or_assoc : (a b c : Bool) → (a || (b || c)) ≡ ((a || b) || c)
    or_assoc true b c = refl
    or_assoc false b c = refl

-- Proves that the first elements of all senders have the same senders as the whole list.
pub firsts_any : {A : Type 0} (teller : A → ℕ) (j : ℕ) (xs : List A) → any_of teller j (firsts (is_by_one teller) [] xs) ≡ any_of teller j xs
firsts_any teller j xs = firsts_any_from teller j [] xs

-- ---- what holds of all elements

all_if : {A : Type 0} (P : A → Type 0) (b : Bool) (xs ys : List A) → AllByRecursion P xs → AllByRecursion P ys → AllByRecursion P (if b then xs else ys)
all_if P true xs ys a b = a
all_if P false xs ys a b = b

pub all_filter : {A : Type 0} (P : A → Type 0) (f : A → Bool) (xs : List A) → AllByRecursion P xs → AllByRecursion P (filter f xs)
all_filter P f [] a = tt
all_filter P f (x ∷ xs) a = all_if P (f x) (x ∷ filter f xs) (filter f xs) (a.0, all_filter P f xs a.1) (all_filter P f xs a.1)

pub all_passed : {A : Type 0} (f : A → Bool) (xs : List A) → AllByRecursion (λ x. f x ≡ true) (filter f xs)
all_passed f [] = tt
all_passed f (x ∷ xs) =
    cond_both (f x) (x ∷ filter f xs) (filter f xs) (AllByRecursion (λ y. f y ≡ true)) (λ e. (e, all_passed f xs)) (λ e. all_passed f xs)

pub all_firsts : {A : Type 0} (P : A → Type 0) (same : A → A → Bool) (before xs : List A) → AllByRecursion P xs → AllByRecursion P (firsts same before xs)
unfolding firsts
all_firsts P same before [] a = tt
all_firsts P same before (x ∷ xs) a =
    all-append P (if list_any (same x) before then [] else x ∷ []) (firsts same (before ++ x ∷ []) xs)
    (all_if P (list_any (same x) before) [] (x ∷ []) tt (a.0, tt)) (all_firsts P same (before ++ x ∷ []) xs a.1)

pub all_repeats : {A : Type 0} (P : A → Type 0) (same : A → A → Bool) (before xs : List A) → AllByRecursion P xs → AllByRecursion P (repeats same before xs)
unfolding repeats
all_repeats P same before [] a = tt
all_repeats P same before (x ∷ xs) a =
    all-append P (if list_any (same x) before then x ∷ [] else []) (repeats same (before ++ x ∷ []) xs)
    (all_if P (list_any (same x) before) (x ∷ []) [] (a.0, tt) tt) (all_repeats P same (before ++ x ∷ []) xs a.1)

pub all_arranged : {A : Type 0} (P : A → Type 0) (lie : A → Bool) (teller : A → ℕ) (list : List A) → AllByRecursion P list → AllByRecursion P (arranged lie teller list)
all_arranged {A} P lie teller list a =
    let lies : List A = filter lie list in
    let by : A → A → Bool = is_by_one teller in
    let honest : List A = filter (λ x. not (lie x)) list in
    let his : AllByRecursion P lies = all_filter P lie list a in
    all_if P (nat_le (length list) most_rows) list (lies_first lie teller list) a
    (all-append P (firsts by [] lies ++ repeats by [] lies) honest
    (all-append P (firsts by [] lies) (repeats by [] lies) (all_firsts P by [] lies his) (all_repeats P by [] lies his))
    (all_filter P (λ x. not (lie x)) list a))

-- ---- numbers of elements

count_append : {A : Type 0} (f : A → Bool) (xs ys : List A) → count_by f (xs ++ ys) ≡ count_by f xs + count_by f ys
count_append f xs ys = sum_by-append (λ x. cond {A = ℕ} (f x) 1 0) xs ys

one_apart : {A : Type 0} (f : A → Bool) (b : Bool) (x : A) → count_by f (if b then [] else x ∷ []) + count_by f (if b then x ∷ [] else []) ≡ cond {A = ℕ} (f x) 1 0
one_apart f true x = omega arith
one_apart f false x = omega arith

-- Proves that first and repeated elements together are all elements.
count_parted : {A : Type 0} (f : A → Bool) (same : A → A → Bool) (before xs : List A) → count_by f (firsts same before xs) + count_by f (repeats same before xs) ≡ count_by f xs
unfolding firsts repeats
count_parted f same before [] = refl
count_parted f same before (x ∷ xs) =
    let b : Bool = list_any (same x) before in
    let one = count_append f (if b then [] else x ∷ []) (firsts same (before ++ x ∷ []) xs) in
    let two = count_append f (if b then x ∷ [] else []) (repeats same (before ++ x ∷ []) xs) in
    let both = one_apart f b x in
    let rest = count_parted f same (before ++ x ∷ []) xs in
    let whole = sum_by-cons (λ y. cond {A = ℕ} (f y) 1 0) x xs in
    omega arith

count_lies_first : {A : Type 0} (f lie : A → Bool) (teller : A → ℕ) (list : List A) → count_by f (lies_first lie teller list) ≡ count_by f list
count_lies_first {A} f lie teller list =
    let lies : List A = filter lie list in
    let by : A → A → Bool = is_by_one teller in
    let one = count_append f (firsts by [] lies ++ repeats by [] lies) (filter (λ x. not (lie x)) list) in
    let two = count_append f (firsts by [] lies) (repeats by [] lies) in
    let three = count_parted f by [] lies in
    let whole = sum_by-filter_both lie (λ x. not (lie x)) (λ x. refl) (λ x. cond {A = ℕ} (f x) 1 0) list in
    omega arith

pub count_arranged : {A : Type 0} (f lie : A → Bool) (teller : A → ℕ) (list : List A) → count_by f (arranged lie teller list) ≡ count_by f list
count_arranged f lie teller list =
    cond_both (nat_le (length list) most_rows) list (lies_first lie teller list) (λ xs. count_by f xs ≡ count_by f list) (λ e. refl) (λ e. count_lies_first f lie teller list)

-- Proves that an element of the sorted list that passes a test is in the given list, too.
any_count : {A : Type 0} (f : A → Bool) (xs : List A) → list_any f xs ≡ true → 0 < count_by f xs
any_count f [] there = absurd cc
any_count f (x ∷ xs) there =
    let whole = sum_by-cons (λ y. cond {A = ℕ} (f y) 1 0) x xs in
    elim (or_cases (f x) (list_any f xs) there) [
      | inl here ↦ let one : cond {A = ℕ} (f x) 1 0 ≡ 1 = ap (λ b. cond {A = ℕ} b 1 0) here in omega arith
      | inr later ↦ let some = any_count f xs later in omega arith
    ]

count_any : {A : Type 0} (f : A → Bool) (xs : List A) → 0 < count_by f xs → list_any f xs ≡ true
count_any f [] some = absurd (omega arith)
count_any f (x ∷ xs) some = elim (cases_Bool (f x)) [
  | inl here ↦ or_left (f x) (list_any f xs) here
  | inr not_here ↦
      let whole = sum_by-cons (λ y. cond {A = ℕ} (f y) 1 0) x xs in
      let none : cond {A = ℕ} (f x) 1 0 ≡ 0 = ap (λ b. cond {A = ℕ} b 1 0) not_here in
      or_right (f x) (list_any f xs) (count_any f xs (omega arith))
]

pub any_arranged : {A : Type 0} (f lie : A → Bool) (teller : A → ℕ) (list : List A) → list_any f (arranged lie teller list) ≡ true → list_any f list ≡ true
any_arranged f lie teller list there =
    let some = any_count f (arranged lie teller list) there in
    let same = count_arranged f lie teller list in
    count_any f list (omega arith)

-- ---- lies that are separated

swapped : {A : Type 0} (b : Bool) (xs ys : List A) → cond (not b) xs ys ≡ cond b ys xs
swapped true xs ys = refl
swapped false xs ys = refl

-- Proves that one more lie is either the first of its sender or a further one.
pub parted_more : {A : Type 0} (teller : A → ℕ) (xs : List A) (i : ℕ) (x d : A) (b : Bool) (seen rows others new_rows new_others : List A) → i < length xs → x ≡ get_or xs i d
    → seen ≡ rows → b ≡ list_any (is_by_one teller x) seen → rows ≡ firsts (is_by_one teller) [] (take i xs) → others ≡ repeats (is_by_one teller) [] (take i xs)
    → new_rows ≡ rows ++ cond (not b) (x ∷ []) [] → new_others ≡ others ++ cond b (x ∷ []) []
    → (new_rows ≡ firsts (is_by_one teller) [] (take (i + 1) xs)) × (new_others ≡ repeats (is_by_one teller) [] (take (i + 1) xs))
parted_more teller xs i x d b seen rows others new_rows new_others within is same any first other one two =
    let known : b ≡ list_any (is_by_one teller x) (take i xs) = any ∙ (ap (list_any (is_by_one teller x)) (same ∙ first) ∙ firsts_any teller (teller x) (take i xs)) in (
      firsts_more (is_by_one teller) xs i x d b rows new_rows within is known first (one ∙ ap (λ ys. rows ++ ys) (swapped b (x ∷ []) [])),
      repeats_more (is_by_one teller) xs i x d b others new_others within is known other two,
    )

-- Proves that one more element, a lie or not, continues the three lists.
pub parted_push : {A : Type 0} (lie : A → Bool) (teller : A → ℕ) (xs : List A) (x : A) (rows others honest new_rows new_others new_honest : List A)
    → rows ≡ firsts (is_by_one teller) [] (filter lie xs) → others ≡ repeats (is_by_one teller) [] (filter lie xs) → honest ≡ filter (λ y. not (lie y)) xs
    → new_rows ≡ rows ++ cond (lie x) (cond (list_any (is_by_one teller x) rows) [] (x ∷ [])) []
    → new_others ≡ others ++ cond (lie x) (cond (list_any (is_by_one teller x) rows) (x ∷ []) []) []
    → new_honest ≡ honest ++ cond (lie x) [] (x ∷ [])
    → (new_rows ≡ firsts (is_by_one teller) [] (filter lie (xs ++ x ∷ []))) × (new_others ≡ repeats (is_by_one teller) [] (filter lie (xs ++ x ∷ []))) × (new_honest ≡ filter (λ y. not (lie y)) (xs ++ x ∷ []))
parted_push lie teller xs x rows others honest new_rows new_others new_honest first other rest one two three = by_case (lie x) refl one two three
  where
    rest_more : (b : Bool) → lie x ≡ b → new_honest ≡ honest ++ cond b [] (x ∷ []) → new_honest ≡ filter (λ y. not (lie y)) (xs ++ x ∷ [])
    rest_more b e h =
        h
        ∙ (ap (λ ys. ys ++ cond b [] (x ∷ [])) rest
        ∙ (ap (λ ys. filter (λ y. not (lie y)) xs ++ ys) (sym (swapped b (x ∷ []) []))
        ∙ sym (filter-append (λ y. not (lie y)) xs (x ∷ []) ∙ ap (λ c. filter (λ y. not (lie y)) xs ++ cond (not c) (x ∷ []) []) e)))

    by_case : (b : Bool) → lie x ≡ b → new_rows ≡ rows ++ cond b (cond (list_any (is_by_one teller x) rows) [] (x ∷ [])) []
        → new_others ≡ others ++ cond b (cond (list_any (is_by_one teller x) rows) (x ∷ []) []) [] → new_honest ≡ honest ++ cond b [] (x ∷ [])
        → (new_rows ≡ firsts (is_by_one teller) [] (filter lie (xs ++ x ∷ []))) × (new_others ≡ repeats (is_by_one teller) [] (filter lie (xs ++ x ∷ []))) × (new_honest ≡ filter (λ y. not (lie y)) (xs ++ x ∷ []))
    by_case true e er eo eh =
        let grown : filter lie (xs ++ x ∷ []) ≡ filter lie xs ++ x ∷ [] = filter-append lie xs (x ∷ []) ∙ ap (λ b. filter lie xs ++ cond b (x ∷ []) []) e in
        let known : list_any (is_by_one teller x) rows ≡ list_any (is_by_one teller x) (filter lie xs) = ap (list_any (is_by_one teller x)) first ∙ firsts_any teller (teller x) (filter lie xs) in (
          er
              ∙ (ap (λ ys. ys ++ cond (list_any (is_by_one teller x) rows) [] (x ∷ [])) first
              ∙ (ap (λ b. firsts (is_by_one teller) [] (filter lie xs) ++ cond b [] (x ∷ [])) known
              ∙ sym (ap (firsts (is_by_one teller) []) grown ∙ firsts_push (is_by_one teller) [] (filter lie xs) x))),
          eo
              ∙ (ap (λ ys. ys ++ cond (list_any (is_by_one teller x) rows) (x ∷ []) []) other
              ∙ (ap (λ b. repeats (is_by_one teller) [] (filter lie xs) ++ cond b (x ∷ []) []) known
              ∙ sym (ap (repeats (is_by_one teller) []) grown ∙ repeats_push (is_by_one teller) [] (filter lie xs) x))),
          rest_more true e eh,
        )
    by_case false e er eo eh =
        let same : filter lie (xs ++ x ∷ []) ≡ filter lie xs =
        filter-append lie xs (x ∷ []) ∙ (ap (λ b. filter lie xs ++ cond b (x ∷ []) []) e ∙ append-nil (filter lie xs)) in (
          er ∙ (append-nil rows ∙ (first ∙ ap (firsts (is_by_one teller) []) (sym same))),
          eo ∙ (append-nil others ∙ (other ∙ ap (repeats (is_by_one teller) []) (sym same))),
          rest_more false e eh,
        )

-- Proves that the three lists together are the sorted list.
pub parted_whole : {A : Type 0} (lie : A → Bool) (teller : A → ℕ) (list xs rows others honest two three : List A) → xs ≡ list
    → rows ≡ firsts (is_by_one teller) [] (filter lie xs) → others ≡ repeats (is_by_one teller) [] (filter lie xs) → honest ≡ filter (λ y. not (lie y)) xs
    → two ≡ rows ++ others → three ≡ two ++ honest → three ≡ lies_first lie teller list
parted_whole lie teller list xs rows others honest two three all first other rest one last =
    last
    ∙ (ap (λ ys. two ++ ys) rest
    ∙ (ap (λ ys. ys ++ filter (λ y. not (lie y)) xs) (one ∙ (ap (λ ys. ys ++ others) first ∙ ap (λ ys. firsts (is_by_one teller) [] (filter lie xs) ++ ys) other))
    ∙ ap (lies_first lie teller) all))
