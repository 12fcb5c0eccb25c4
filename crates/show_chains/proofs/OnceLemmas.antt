-- Each chain that was sent or owed is in exactly one stroke.
use Rattle.std.proofs.Common.{ℕ, suc, ◌+◌, ◌≡◌, ◌≢◌, Bool, true, false, not, ◌&&◌, ◌||◌, cond, List, [], ◌∷◌, ◌++◌, length, length-append, map, refl, sym, ap, subst, ◌∙◌, arith, inl, inr}
use Rattle.std.proofs.lemmas.Bool.{and_left, and_parts, and_right, cases_Bool, eq-eqb, eqb-false, eqb-true, ne_eqb, not-true, or_cases, or_left, or_parts, or_right}
use Rattle.std.proofs.lemmas.List.Elements.{filter-append}
use Rattle.std.proofs.lemmas.List.Sums.{length-filter}
use Rattle.std.proofs.lemmas.Slice.Eq.{bytes_eq-Decides}
use Rattle.std.specs.Prelude.{◌==◌, bytes_eq, filter}
use Rattle.label.specs.Labels.{is_distinct, on}
use Rattle.signed.specs.Accepted.{firsts}
use Rattle.signed.specs.Chains.{Chain, orders}
use Rattle.signed.proofs.Decided.{firsts_distinct}
use Rattle.signed.proofs.Lists.{firsts_in}
use Rattle.show_diagram.specs.Order.{arranged}
use Rattle.show_diagram.proofs.OrderLemmas.{count_arranged}
use Rattle.show_chains.specs.declared.stroke.Way.{Way}
use Rattle.show_chains.specs.Laws.{tells_of}
use Rattle.show_chains.specs.Owed.{is_among, is_same}
use Rattle.show_chains.specs.Strokes.{Drawn, grouped, in_row, is_lie, made, numbered, of_order, sender, told_between, way}

-- ---- chains

same_chain : (a b : Chain) → is_same a b ≡ true → b ≡ a
same_chain a b e =
    let both = and_parts (a.order == b.order) (bytes_eq a.signers b.signers) e in
    let order : b.order ≡ a.order = sym (eqb-true a.order b.order both.0) in
    let signers : b.signers ≡ a.signers = sym ((bytes_eq-Decides a.signers b.signers).0 both.1) in
    ap (λ (o : ℕ). record { order = o; signers = b.signers }) order
    ∙ ap (λ (s : List ℕ). record { order = a.order; signers = s }) signers

among_rest : (xs : List Chain) (x ch : Chain) → is_same ch x ≡ false → is_among (x ∷ xs) ch ≡ is_among xs ch
among_rest xs x ch e = ap (λ b. b || is_among xs ch) e

-- A chain is among the filtered ones exactly if it is in the list and passes the filter.
among_kept : (f : Chain → Bool) (xs : List Chain) (ch : Chain) → is_among (filter f xs) ch ≡ (f ch && is_among xs ch)
among_kept f [] ch = sym (and_right (f ch) false refl)
among_kept f (x ∷ xs) ch = elim (cases_Bool (is_same ch x)) [
  | inl same ↦ ap (λ b. is_among (cond b (x ∷ filter f xs) (filter f xs)) ch) (ap f (same_chain ch x same)) ∙ by_test (f ch) refl same (among_kept f xs ch)
  | inr other ↦
      by_other (f x) other ∙ (among_kept f xs ch ∙ ap (λ b. f ch && b) (sym (among_rest xs x ch other)))
]
  where
    by_test : (b : Bool) → f ch ≡ b → is_same ch x ≡ true → is_among (filter f xs) ch ≡ (f ch && is_among xs ch) → is_among (cond b (x ∷ filter f xs) (filter f xs)) ch ≡ (b && is_among (x ∷ xs) ch)
    by_test true e same rest = or_left (is_same ch x) (is_among (filter f xs) ch) same ∙ sym (or_left (is_same ch x) (is_among xs ch) same)
    by_test false e same rest = rest ∙ ap (λ b. b && is_among xs ch) e

    by_other : (b : Bool) → is_same ch x ≡ false → is_among (cond b (x ∷ filter f xs) (filter f xs)) ch ≡ is_among (filter f xs) ch
    by_other true other = among_rest (filter f xs) x ch other
    by_other false other = refl

-- If a chain is in the list, its order is among the list's orders.
order_among : (xs : List Chain) (ch : Chain) → is_among xs ch ≡ true → on (orders xs) ch.order ≡ true
order_among [] ch e = cc
order_among (x ∷ xs) ch e = elim (or_cases (is_same ch x) (is_among xs ch) e) [
  | inl same ↦ or_left (x.order == ch.order) (on (orders xs) ch.order) (eq-eqb x.order ch.order (ap (λ (y : Chain). y.order) (same_chain ch x same)))
  | inr there ↦ or_right (x.order == ch.order) (on (orders xs) ch.order) (order_among xs ch there)
]

-- ---- strokes in their rows

length_if : {A B : Type 0} (b : Bool) (x : A) (xs : List A) (y : B) (ys : List B) → length xs ≡ length ys → length (cond b (x ∷ xs) xs) ≡ length (cond b (y ∷ ys) ys)
length_if true x xs y ys e = ap suc e
length_if false x xs y ys e = e

-- Numbering the rows does not change how many strokes pass a test that ignores row numbers.
pub kept_numbered : (f : Drawn → Bool) (xs : List Drawn) (row : ℕ) → ((x : Drawn) (i : ℕ) → f (in_row x i) ≡ f x) → length (filter f (numbered xs row)) ≡ length (filter f xs)
kept_numbered f [] row h = refl
kept_numbered f (x ∷ xs) row h =
    let rest : List Drawn = filter f (numbered xs (suc row)) in
    ap (λ b. length (cond b (in_row x row ∷ rest) rest)) (h x row) ∙ length_if (f x) (in_row x row) rest x (filter f xs) (kept_numbered f xs (suc row) h)

-- Arranging the strokes does not change how many pass a test.
pub kept_arranged : (f : Drawn → Bool) (xs : List Drawn) → length (filter f (arranged is_lie sender xs)) ≡ length (filter f xs)
kept_arranged f xs = length-filter f (arranged is_lie sender xs) ∙ (count_arranged f is_lie sender xs ∙ sym (length-filter f xs))

none_made : (h : Drawn → Bool) (m : ℕ → Drawn) (os : List ℕ) → ((o : ℕ) → h (m o) ≡ false) → filter h (map m os) ≡ []
none_made h m [] none = refl
none_made h m (o ∷ os) none = ap (λ b. cond b (m o ∷ filter h (map m os)) (filter h (map m os))) (none o) ∙ none_made h m os none

-- If only strokes with order `v` can pass a test and no stroke has it, none passes.
none_of_order : (h : Drawn → Bool) (m : ℕ → Drawn) (v : ℕ) (os : List ℕ) → ((o : ℕ) → o ≢ v → h (m o) ≡ false) → on os v ≡ false → filter h (map m os) ≡ []
none_of_order h m v [] others off = refl
none_of_order h m v (o ∷ os) others off =
    let both = or_parts (o == v) (on os v) off in
    ap (λ b. cond b (m o ∷ filter h (map m os)) (filter h (map m os))) (others o (eqb-false o v both.0)) ∙ none_of_order h m v os others both.1

alone : (b : Bool) (x : Drawn) → length (cond b (x ∷ []) []) ≡ cond {A = ℕ} b 1 0
alone true x = refl
alone false x = refl

one_of_order : (h : Drawn → Bool) (m : ℕ → Drawn) (v : ℕ) (os : List ℕ) → ((o : ℕ) → o ≢ v → h (m o) ≡ false) → is_distinct os ≡ true → on os v ≡ true → length (filter h (map m os)) ≡ cond {A = ℕ} (h (m v)) 1 0
one_of_order h m v [] others apart there = cc
one_of_order h m v (o ∷ os) others apart there =
    let parts = and_parts (not (on os o)) (is_distinct os) apart in
    elim (cases_Bool (o == v)) [
      | inl same ↦
          let e : o ≡ v = eqb-true o v same in
          let off : on os v ≡ false = subst (λ (i : ℕ). on os i ≡ false) e (not-true (on os o) parts.0) in
          ap (λ (xs : List Drawn). length (cond (h (m o)) (m o ∷ xs) xs)) (none_of_order h m v os others off)
          ∙ (alone (h (m o)) (m o) ∙ ap (λ (i : ℕ). cond {A = ℕ} (h (m i)) 1 0) e)
      | inr other ↦
          ap (λ b. length (cond b (m o ∷ filter h (map m os)) (filter h (map m os)))) (others o (eqb-false o v other))
          ∙ one_of_order h m v os others parts.1 (elim (or_cases (o == v) (on os v) there) [ inl here ↦ absurd cc | inr later ↦ later ])
    ]

-- ---- groups

-- A group of another sender has no stroke of general `g` with this chain.
other_group : (w : Way) (g : ℕ) (ch : Chain) (chains : List Chain) → (w.teller == g) ≡ false → filter (tells_of g ch) (grouped w chains) ≡ []
other_group w g ch chains e =
    none_made (tells_of g ch) (made w chains) (orders (firsts [] chains)) (λ o. and_left (w.teller == g) (is_among (of_order o chains) ch) e)

one_group : (w : Way) (g : ℕ) (ch : Chain) (chains : List Chain) → (w.teller == g) ≡ true → length (filter (tells_of g ch) (grouped w chains)) ≡ cond {A = ℕ} (is_among chains ch) 1 0
one_group w g ch chains e = elim (cases_Bool (is_among chains ch)) [
  | inl there ↦
      one_of_order (tells_of g ch) (made w chains) ch.order (orders (firsts [] chains)) others (firsts_distinct [] chains) (firsts_in [] chains ch.order (order_among chains ch there) refl)
      ∙ ap (λ b. cond {A = ℕ} b 1 0) (its_own ∙ ap (λ b. b && is_among chains ch) e)
  | inr lacks ↦
      ap length (none_made (tells_of g ch) (made w chains) (orders (firsts [] chains)) (λ o. and_right (w.teller == g) (is_among (of_order o chains) ch) (among_kept (λ x. x.order == o) chains ch ∙ and_right (ch.order == o) (is_among chains ch) lacks)))
      ∙ sym (ap (λ b. cond {A = ℕ} b 1 0) lacks)
]
  where
    others : (o : ℕ) → o ≢ ch.order → tells_of g ch (made w chains o) ≡ false
    others o apart =
        and_right (w.teller == g) (is_among (of_order o chains) ch)
        (among_kept (λ x. x.order == o) chains ch ∙ and_left (ch.order == o) (is_among chains ch) (ne_eqb ch.order o (λ q. apart (sym q))))

    its_own : tells_of g ch (made w chains ch.order) ≡ ((w.teller == g) && is_among chains ch)
    its_own =
        ap (λ b. (w.teller == g) && b) (among_kept (λ x. x.order == ch.order) chains ch ∙ ap (λ b. b && is_among chains ch) (eq-eqb ch.order ch.order refl))

-- ---- from one to another

pub other_between : (round p q g : ℕ) (ch : Chain) (sent owed : List Chain) → q ≢ g → filter (tells_of g ch) (told_between round p q sent owed) ≡ []
other_between round p q g ch sent owed apart =
    let e : (q == g) ≡ false = ne_eqb q g apart in
    let one : List Drawn = grouped (way round p q true false) (filter (is_among owed) sent) in
    let two : List Drawn = grouped (way round p q true true) (filter (λ x. not (is_among owed x)) sent) in
    let three : List Drawn = grouped (way round p q false true) (filter (λ x. not (is_among sent x)) owed) in
    filter-append (tells_of g ch) (one ++ two) three
    ∙ (ap (λ xs. xs ++ filter (tells_of g ch) three) (filter-append (tells_of g ch) one two)
    ∙ (ap (λ xs. (xs ++ filter (tells_of g ch) two) ++ filter (tells_of g ch) three) (other_group (way round p q true false) g ch (filter (is_among owed) sent) e)
    ∙ (ap (λ xs. xs ++ filter (tells_of g ch) three) (other_group (way round p q true true) g ch (filter (λ x. not (is_among owed x)) sent) e)
    ∙ other_group (way round p q false true) g ch (filter (λ x. not (is_among sent x)) owed) e)))

pub one_between : (round p g : ℕ) (ch : Chain) (sent owed : List Chain)
    → length (filter (tells_of g ch) (told_between round p g sent owed)) ≡ cond {A = ℕ} (is_among sent ch || is_among owed ch) 1 0
one_between round p g ch sent owed =
    let e : (g == g) ≡ true = eq-eqb g g refl in
    let f : Drawn → Bool = tells_of g ch in
    let one : List Drawn = grouped (way round p g true false) (filter (is_among owed) sent) in
    let two : List Drawn = grouped (way round p g true true) (filter (λ x. not (is_among owed x)) sent) in
    let three : List Drawn = grouped (way round p g false true) (filter (λ x. not (is_among sent x)) owed) in
    let first : length (filter f one) ≡ cond {A = ℕ} (is_among owed ch && is_among sent ch) 1 0 =
    one_group (way round p g true false) g ch (filter (is_among owed) sent) e ∙ ap (λ b. cond {A = ℕ} b 1 0) (among_kept (is_among owed) sent ch) in
    let second : length (filter f two) ≡ cond {A = ℕ} (not (is_among owed ch) && is_among sent ch) 1 0 =
    one_group (way round p g true true) g ch (filter (λ x. not (is_among owed x)) sent) e ∙ ap (λ b. cond {A = ℕ} b 1 0) (among_kept (λ x. not (is_among owed x)) sent ch) in
    let third : length (filter f three) ≡ cond {A = ℕ} (not (is_among sent ch) && is_among owed ch) 1 0 =
    one_group (way round p g false true) g ch (filter (λ x. not (is_among sent x)) owed) e ∙ ap (λ b. cond {A = ℕ} b 1 0) (among_kept (λ x. not (is_among sent x)) owed ch) in
    let outer : length (filter f ((one ++ two) ++ three)) ≡ length (filter f (one ++ two)) + length (filter f three) =
    ap length (filter-append f (one ++ two) three) ∙ length-append (filter f (one ++ two)) (filter f three) in
    let inner : length (filter f (one ++ two)) ≡ length (filter f one) + length (filter f two) = ap length (filter-append f one two) ∙ length-append (filter f one) (filter f two) in
    let all = sum_up (is_among sent ch) (is_among owed ch) in
    omega arith
  where
    sum_up : (s o : Bool) → (cond {A = ℕ} (o && s) 1 0 + cond {A = ℕ} (not o && s) 1 0) + cond {A = ℕ} (not s && o) 1 0 ≡ cond {A = ℕ} (s || o) 1 0
    sum_up true true = refl
    sum_up true false = refl
    sum_up false true = refl
    sum_up false false = refl
