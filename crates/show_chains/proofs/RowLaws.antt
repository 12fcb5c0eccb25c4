-- Rows are numbered, and each stroke is right about each of its chains.
use Rattle.std.proofs.Common.{ℕ, zero, suc, ◌+◌, ◌-◌, ◌<◌, ◌≤◌, ◌≡◌, ◌≢◌, Bool, true, false, not, ◌&&◌, ◌||◌, cond, List, [], ◌∷◌, ◌++◌, length, map, refl, sym, ap, subst, ◌∙◌, arith, inl, inr}
use Rattle.std.proofs.lemmas.Bool.{and_from, and_left, and_right, cases_Bool, cond_both, eq-eqb, le-ltb, lt-ltb, ne_eqb, not-true}
use Rattle.std.proofs.lemmas.List.Elements.{All-from_recursion}
use Rattle.std.proofs.lemmas.List.Sums.{length-filter, sum_by-cons}
use Rattle.std.specs.Bool.{beq}
use Rattle.std.specs.List.{All, AllByRecursion, flat_map, list_any, range_with_len}
use Rattle.std.specs.Prelude.{◌==◌, count_by, drop, filter, is_some, take}
use Rattle.label.proofs.Places.{all-append}
use Rattle.world.specs.Chronicle.{Chronicle}
use Rattle.signed.specs.Accepted.{firsts}
use Rattle.signed.specs.Chains.{Among, Chain, orders}
use Rattle.show_diagram.specs.declared.stroke.Stroke.{Stroke}
use Rattle.show_diagram.specs.Left.{is_left, is_left_lie, is_past}
use Rattle.show_diagram.specs.Lists.{has_row, is_lie_to, is_to, with_rows as strokes_with_rows}
use Rattle.show_diagram.specs.Order.{arranged, most_rows}
use Rattle.show_diagram.proofs.ExactLaws.{kept}
use Rattle.show_diagram.proofs.LiesLemmas.{is_lie_of, liar_before, no_honest_before}
use Rattle.show_diagram.proofs.OrderLemmas.{all_arranged, any_arranged}
use Rattle.show_diagram.proofs.RowLemmas.{all_kept, all_range, filter_flat, filters_swap, none_kept, none_of, one_of}
use Rattle.show_chains.specs.declared.stroke.Way.{Way}
use Rattle.show_chains.specs.Laws.{IsTold, RowsAreExact, StrokesAreExact, drawn_in, is_lie_by, list_in, tells_of}
use Rattle.show_chains.specs.Owed.{is_among, owed_to, sent_to}
use Rattle.show_chains.specs.Strokes.{Drawn, bare, behind, between, grouped, in_round, in_row, is_lie, list_to, made, numbered, sender, strokes_of, told_between, told_to, way, with_rows}
use Rattle.show_chains.proofs.LoyalLaws.{among_them}
use Rattle.show_chains.proofs.OnceLemmas.{kept_arranged, kept_numbered, one_between, other_between}

-- ---- strokes in their rows

all_numbered : (P : Drawn → Type 0) (xs : List Drawn) (row : ℕ) → AllByRecursion (λ x. (i : ℕ) → P (in_row x i)) xs → AllByRecursion P (numbered xs row)
all_numbered P [] row a = tt
all_numbered P (x ∷ xs) row a = (a.0 row, all_numbered P xs (suc row) a.1)

rows_are : (xs : List Drawn) (row : ℕ) → map (λ (x : Drawn). x.stroke.row) (numbered xs row) ≡ range_with_len row (length (numbered xs row))
rows_are [] row = refl
rows_are (x ∷ xs) row =
    let next : suc row ≡ row + 1 = omega arith in
    ap (λ ys. row ∷ ys) (rows_are xs (suc row) ∙ ap (λ (i : ℕ). range_with_len i (length (numbered xs (suc row)))) next)

all_made : (P : Drawn → Type 0) (w : Way) (chains : List Chain) (os : List ℕ) → ((order : ℕ) → P (made w chains order)) → AllByRecursion P (map (made w chains) os)
all_made P w chains [] h = tt
all_made P w chains (o ∷ os) h = (h o, all_made P w chains os h)

-- A property of all strokes that can be made for chains that are sent or owed holds for all strokes from one general to
-- another.
all_between : (P : Drawn → Type 0) (round p g : ℕ) (sent owed : List Chain)
    → ((order : ℕ) → P (made (way round p g true false) (filter (is_among owed) sent) order))
    → ((order : ℕ) → P (made (way round p g true true) (filter (λ ch. not (is_among owed ch)) sent) order))
    → ((order : ℕ) → P (made (way round p g false true) (filter (λ ch. not (is_among sent ch)) owed) order))
    → AllByRecursion P (told_between round p g sent owed)
all_between P round p g sent owed a b c =
    let one : List Chain = filter (is_among owed) sent in
    let two : List Chain = filter (λ ch. not (is_among owed ch)) sent in
    let three : List Chain = filter (λ ch. not (is_among sent ch)) owed in
    all-append P (grouped (way round p g true false) one ++ grouped (way round p g true true) two) (grouped (way round p g false true) three)
    (all-append P (grouped (way round p g true false) one) (grouped (way round p g true true) two)
    (all_made P (way round p g true false) one (orders (firsts [] one)) a) (all_made P (way round p g true true) two (orders (firsts [] two)) b))
    (all_made P (way round p g false true) three (orders (firsts [] three)) c)

-- ---- lists

abbrev IsListed : ℕ → ℕ → Drawn → Type 0
IsListed round p x = (x.stroke.round ≡ round) × (x.stroke.receiver ≡ p)

-- A property that holds for the strokes of every sender, whatever their row, holds for all strokes of a list.
all_list : (P : Drawn → Type 0) (c : Chronicle) (round p : ℕ) → ((g : ℕ) → AllByRecursion (λ x. (i : ℕ) → P (in_row x i)) (between c round p g)) → AllByRecursion P (list_to c round p)
all_list P c round p h =
    let F : Drawn → Type 0 = λ x. (i : ℕ) → P (in_row x i) in
    all_numbered P (arranged is_lie sender (told_to c round p)) 0 (all_arranged F is_lie sender (told_to c round p) (all_range F (between c round p) c.scenario.generals (λ g l. h g)))

all_listed : (c : Chronicle) (round p : ℕ) → AllByRecursion (IsListed round p) (list_to c round p)
all_listed c round p =
    all_list (IsListed round p) c round p
    (λ g. all_between (λ x. (i : ℕ) → IsListed round p (in_row x i)) round p g (sent_to c round g p) (owed_to c round g p) (λ o i. (refl, refl)) (λ o i. (refl, refl)) (λ o i. (refl, refl)))

weaker : (P Q : Drawn → Type 0) (xs : List Drawn) → ((x : Drawn) → P x → Q x) → AllByRecursion P xs → AllByRecursion Q xs
weaker P Q [] h a = tt
weaker P Q (x ∷ xs) h a = (h x a.0, weaker P Q xs h a.1)

abbrev is_in : ℕ → ℕ → Drawn → Bool
is_in round p x = is_to round p x.stroke

own_list : (c : Chronicle) (round p : ℕ) → filter (is_in round p) (list_to c round p) ≡ list_to c round p
own_list c round p =
    all_kept (is_in round p) (list_to c round p)
    (weaker (IsListed round p) (λ x. is_in round p x ≡ true) (list_to c round p)
    (λ x l. and_from (x.stroke.round == round) (x.stroke.receiver == p) (eq-eqb x.stroke.round round l.0) (eq-eqb x.stroke.receiver p l.1)) (all_listed c round p))

other_list : (c : Chronicle) (round p q : ℕ) → q ≢ p → filter (is_in round p) (list_to c round q) ≡ []
other_list c round p q apart =
    none_kept (is_in round p) (list_to c round q)
    (weaker (IsListed round q) (λ x. is_in round p x ≡ false) (list_to c round q)
    (λ x l. and_right (x.stroke.round == round) (x.stroke.receiver == p) (ne_eqb x.stroke.receiver p (λ e. apart (sym l.1 ∙ e)))) (all_listed c round q))

other_round : (c : Chronicle) (round other p q : ℕ) → other ≢ round → filter (is_in round p) (list_to c other q) ≡ []
other_round c round other p q apart =
    none_kept (is_in round p) (list_to c other q)
    (weaker (IsListed other q) (λ x. is_in round p x ≡ false) (list_to c other q)
    (λ x l. and_left (x.stroke.round == round) (x.stroke.receiver == p) (ne_eqb x.stroke.round round (λ e. apart (sym l.0 ∙ e)))) (all_listed c other q))

none_in_round : (c : Chronicle) (round other p n : ℕ) → other ≢ round → flat_map (λ q. filter (is_in round p) (list_to c other q)) (range_with_len 0 n) ≡ []
none_in_round c round other p n apart = none_of (λ q. filter (is_in round p) (list_to c other q)) n (λ q l. other_round c round other p q apart)

its_list : (c : Chronicle) (round p : ℕ) → p < c.scenario.generals → 0 < round → round ≤ c.scenario.bound + 1 → list_in c round p ≡ list_to c round p
unfolding strokes_of
its_list c round p inside some few =
    let n : ℕ = c.scenario.generals in
    let k : ℕ = round - 1 in
    let at : k + 1 ≡ round = omega arith in
    filter_flat (is_in round p) (behind c) (range_with_len 0 (c.scenario.bound + 1))
    ∙ (one_of (λ i. filter (is_in round p) (behind c i)) k (c.scenario.bound + 1) (omega arith)
    (λ i apart. filter_flat (is_in round p) (list_to c (i + 1)) (range_with_len 0 n) ∙ none_in_round c round (i + 1) p n (λ e. apart (omega arith)))
    ∙ (ap (λ (r : ℕ). filter (is_in round p) (in_round c r)) at
    ∙ (filter_flat (is_in round p) (list_to c round) (range_with_len 0 n)
    ∙ (one_of (λ q. filter (is_in round p) (list_to c round q)) p n inside (λ q apart. other_list c round p q apart) ∙ own_list c round p))))

rows_numbered : (c : Chronicle) (round p : ℕ) → p < c.scenario.generals → 0 < round → round ≤ c.scenario.bound + 1 → map (λ (x : Drawn). x.stroke.row) (list_in c round p) ≡ range_with_len 0 (length (list_in c round p))
rows_numbered c round p inside some few =
    let e = its_list c round p inside some few in
    ap (map (λ (x : Drawn). x.stroke.row)) e ∙ (rows_are (arranged is_lie sender (told_to c round p)) 0 ∙ sym (ap (λ (xs : List Drawn). range_with_len 0 (length xs)) e))

-- ---- what is told of chains

all_if : (P : Chain → Type 0) (f : Chain → Bool) (xs : List Chain) → AllByRecursion P xs → AllByRecursion P (filter f xs)
all_if P f [] a = tt
all_if P f (x ∷ xs) a = cond_both (f x) (x ∷ filter f xs) (filter f xs) (AllByRecursion P) (λ e. (a.0, all_if P f xs a.1)) (λ e. all_if P f xs a.1)

all_passed : (P Q : Chain → Type 0) (f : Chain → Bool) (xs : List Chain) → ((x : Chain) → P x → f x ≡ true → Q x) → AllByRecursion P xs → AllByRecursion Q (filter f xs)
all_passed P Q f [] h a = tt
all_passed P Q f (x ∷ xs) h a = cond_both (f x) (x ∷ filter f xs) (filter f xs) (AllByRecursion Q) (λ e. (h x a.0 e, all_passed P Q f xs h a.1)) (λ e. all_passed P Q f xs h a.1)

all_among : (xs ys : List Chain) → ((x : Chain) → Among x ys → Among x xs) → AllByRecursion (λ ch. is_among xs ch ≡ true) ys
all_among xs [] h = tt
all_among xs (y ∷ ys) h = (among_them xs y (h y (inl refl)), all_among xs ys (λ x m. h x (inr m)))

told_so : (c : Chronicle) (stroke : Stroke) (ch : Chain) (s o : Bool) → is_some stroke.told ≡ s → stroke.differs ≡ not (beq s o)
    → is_among (sent_to c stroke.round stroke.teller stroke.receiver) ch ≡ s → is_among (owed_to c stroke.round stroke.teller stroke.receiver) ch ≡ o → IsTold c stroke ch
told_so c stroke ch s o is so sent owed = record {
  sent = is ∙ sym sent;
  differs = so ∙ (ap (λ b. not (beq b o)) (sym sent) ∙ ap (λ b. not (beq (is_among (sent_to c stroke.round stroke.teller stroke.receiver) ch) b)) (sym owed));
}

abbrev Tells : Chronicle → Drawn → Type 0
Tells c x = AllByRecursion (IsTold c x.stroke) x.chains

tells_between : (c : Chronicle) (round p g : ℕ) → AllByRecursion (λ x. (i : ℕ) → Tells c (in_row x i)) (between c round p g)
tells_between c round p g =
    let sent : List Chain = sent_to c round g p in
    let owed : List Chain = owed_to c round g p in
    let S : Chain → Type 0 = λ ch. is_among sent ch ≡ true in
    let O : Chain → Type 0 = λ ch. is_among owed ch ≡ true in
    let first : AllByRecursion S sent = all_among sent sent (λ x m. m) in
    let last : AllByRecursion O owed = all_among owed owed (λ x m. m) in
    all_between (λ x. (i : ℕ) → Tells c (in_row x i)) round p g sent owed
    (λ o i.
    let st : Stroke = (in_row (made (way round p g true false) (filter (is_among owed) sent) o) i).stroke in
    all_if (IsTold c st) (λ ch. ch.order == o) (filter (is_among owed) sent) (all_passed S (IsTold c st) (is_among owed) sent (λ ch a e. told_so c st ch true true refl refl a e) first))
    (λ o i.
    let st : Stroke = (in_row (made (way round p g true true) (filter (λ ch. not (is_among owed ch)) sent) o) i).stroke in
    all_if (IsTold c st) (λ ch. ch.order == o) (filter (λ ch. not (is_among owed ch)) sent)
    (all_passed S (IsTold c st) (λ ch. not (is_among owed ch)) sent (λ ch a e. told_so c st ch true false refl refl a (not-true (is_among owed ch) e)) first))
    (λ o i.
    let st : Stroke = (in_row (made (way round p g false true) (filter (λ ch. not (is_among sent ch)) owed) o) i).stroke in
    all_if (IsTold c st) (λ ch. ch.order == o) (filter (λ ch. not (is_among sent ch)) owed)
    (all_passed O (IsTold c st) (λ ch. not (is_among sent ch)) owed (λ ch a e. told_so c st ch false true refl refl (not-true (is_among sent ch) e) a) last))

tells_all : (c : Chronicle) → AllByRecursion (Tells c) (strokes_of c)
unfolding strokes_of
tells_all c =
    all_range (Tells c) (behind c) (c.scenario.bound + 1)
    (λ before m. all_range (Tells c) (list_to c (before + 1)) c.scenario.generals (λ p l. all_list (Tells c) c (before + 1) p (λ g. tells_between c (before + 1) p g)))

-- ---- one stroke for each chain

told_once : (c : Chronicle) (round g p : ℕ) (ch : Chain) → g < c.scenario.generals → p < c.scenario.generals → 0 < round → round ≤ c.scenario.bound + 1
    → length (filter (tells_of g ch) (list_in c round p)) ≡ cond {A = ℕ} (is_among (sent_to c round g p) ch || is_among (owed_to c round g p) ch) 1 0
told_once c round g p ch sends inside some few =
    let n : ℕ = c.scenario.generals in
    let f : Drawn → Bool = tells_of g ch in
    ap (λ (xs : List Drawn). length (filter f xs)) (its_list c round p inside some few)
    ∙ (kept_numbered f (arranged is_lie sender (told_to c round p)) 0 (λ x i. refl)
    ∙ (kept_arranged f (told_to c round p)
    ∙ (ap length
    (filter_flat f (between c round p) (range_with_len 0 n)
    ∙ one_of (λ q. filter f (between c round p q)) g n sends (λ q apart. other_between round p q g ch (sent_to c round q p) (owed_to c round q p) apart))
    ∙ one_between round p g ch (sent_to c round g p) (owed_to c round g p))))

-- ---- how wide

abbrev IsWide : Drawn → Type 0
IsWide x = x.stroke.labels ≡ length x.chains

wide_all : (c : Chronicle) → AllByRecursion IsWide (strokes_of c)
unfolding strokes_of
wide_all c =
    all_range IsWide (behind c) (c.scenario.bound + 1)
    (λ before m. all_range IsWide (list_to c (before + 1)) c.scenario.generals
    (λ p l. all_list IsWide c (before + 1) p
    (λ g. all_between (λ x. (i : ℕ) → IsWide (in_row x i)) (before + 1) p g (sent_to c (before + 1) g p) (owed_to c (before + 1) g p) (λ o i. refl) (λ o i. refl) (λ o i. refl))))

-- ---- which are drawn

none_behind : (row : ℕ) (xs : List Drawn) → most_rows ≤ row → with_rows (numbered xs row) ≡ []
none_behind row [] past = refl
none_behind row (x ∷ xs) past =
    let rest : List Drawn = with_rows (numbered xs (suc row)) in
    ap (λ b. cond b (in_row x row ∷ rest) rest) (le-ltb row most_rows past) ∙ none_behind (suc row) xs (omega arith)

first_rows : (k row : ℕ) (xs : List Drawn) → row + k ≡ most_rows → with_rows (numbered xs row) ≡ numbered (take k xs) row
first_rows zero row xs e = none_behind row xs (omega arith)
first_rows (suc k) row [] e = refl
first_rows (suc k) row (x ∷ xs) e =
    let rest : List Drawn = with_rows (numbered xs (suc row)) in
    ap (λ b. cond b (in_row x row ∷ rest) rest) (lt-ltb row most_rows (omega arith)) ∙ ap (λ ys. in_row x row ∷ ys) (first_rows k (suc row) xs (omega arith))

take_numbered : (k row : ℕ) (xs : List Drawn) → take k (numbered xs row) ≡ numbered (take k xs) row
take_numbered zero row xs = refl
take_numbered (suc k) row [] = refl
take_numbered (suc k) row (x ∷ xs) = ap (λ ys. in_row x row ∷ ys) (take_numbered k (suc row) xs)

drop_numbered : (k row : ℕ) (xs : List Drawn) → drop k (numbered xs row) ≡ numbered (drop k xs) (row + k)
drop_numbered zero row xs = ap (λ (i : ℕ). numbered xs i) (let e : row ≡ row + 0 = omega arith in e)
drop_numbered (suc k) row [] = refl
drop_numbered (suc k) row (x ∷ xs) = drop_numbered k (suc row) xs ∙ ap (λ (i : ℕ). numbered (drop k xs) i) (let e : suc row + k ≡ row + suc k = omega arith in e)

any_numbered : (f : Drawn → Bool) (xs : List Drawn) (row : ℕ) → ((x : Drawn) (i : ℕ) → f (in_row x i) ≡ f x) → list_any f (numbered xs row) ≡ list_any f xs
any_numbered f [] row h = refl
any_numbered f (x ∷ xs) row h = ap (λ b. b || list_any f (numbered xs (suc row))) (h x row) ∙ ap (λ b. f x || b) (any_numbered f xs (suc row) h)

abbrev rows_to : Chronicle → ℕ → ℕ → List Drawn
rows_to c round p = arranged is_lie sender (told_to c round p)

drawn_rows : (c : Chronicle) (round p : ℕ) → p < c.scenario.generals → 0 < round → round ≤ c.scenario.bound + 1 → drawn_in c round p ≡ numbered (take most_rows (rows_to c round p)) 0
drawn_rows c round p inside some few =
    filters_swap (is_in round p) (λ (x : Drawn). has_row x.stroke) (strokes_of c) ∙ (ap with_rows (its_list c round p inside some few) ∙ first_rows most_rows 0 (rows_to c round p) refl)

first_drawn : (c : Chronicle) (round p : ℕ) → p < c.scenario.generals → 0 < round → round ≤ c.scenario.bound + 1 → drawn_in c round p ≡ take most_rows (list_in c round p)
first_drawn c round p inside some few =
    drawn_rows c round p inside some few ∙ (sym (take_numbered most_rows 0 (rows_to c round p)) ∙ sym (ap (take most_rows) (its_list c round p inside some few)))

only_lies : (c : Chronicle) (round p : ℕ) → p < c.scenario.generals → 0 < round → round ≤ c.scenario.bound + 1 → list_any is_lie (drop most_rows (list_in c round p)) ≡ true
    → AllByRecursion (λ (x : Drawn). is_lie x ≡ true) (drawn_in c round p)
only_lies c round p inside some few left =
    let rows : List Drawn = rows_to c round p in
    let here : list_any is_lie (drop most_rows rows) ≡ true =
    sym (any_numbered is_lie (drop most_rows rows) (0 + most_rows) (λ x i. refl))
    ∙ (sym (ap (list_any is_lie) (drop_numbered most_rows 0 rows)) ∙ (sym (ap (λ xs. list_any is_lie (drop most_rows xs)) (its_list c round p inside some few)) ∙ left)) in
    subst (AllByRecursion (λ (x : Drawn). is_lie x ≡ true)) (sym (drawn_rows c round p inside some few))
    (all_numbered (λ (x : Drawn). is_lie x ≡ true) (take most_rows rows) 0
    (weaker (λ (x : Drawn). is_lie x ≡ true) (λ x. (i : ℕ) → is_lie (in_row x i) ≡ true) (take most_rows rows) (λ x e i. e) (no_honest_before is_lie sender (told_to c round p) here)))

each_liar : (c : Chronicle) (round p g : ℕ) → p < c.scenario.generals → 0 < round → round ≤ c.scenario.bound + 1 → c.scenario.generals ≤ most_rows
    → list_any (is_lie_by g) (list_in c round p) ≡ true → list_any (is_lie_by g) (drawn_in c round p) ≡ true
each_liar c round p g inside some few short there =
    let n : ℕ = c.scenario.generals in
    let told : List Drawn = told_to c round p in
    let rows : List Drawn = rows_to c round p in
    let below : AllByRecursion (λ (x : Drawn). sender x < n) told =
    all_range (λ (x : Drawn). sender x < n) (between c round p) n (λ q l. all_between (λ (x : Drawn). sender x < n) round p q (sent_to c round q p) (owed_to c round q p) (λ o. l) (λ o. l) (λ o. l)) in
    let his : list_any (is_lie_of is_lie sender g) rows ≡ true =
    sym (any_numbered (is_lie_by g) rows 0 (λ x i. refl)) ∙ (sym (ap (list_any (is_lie_by g)) (its_list c round p inside some few)) ∙ there) in
    ap (list_any (is_lie_by g)) (drawn_rows c round p inside some few)
    ∙ (any_numbered (is_lie_by g) (take most_rows rows) 0 (λ x i. refl) ∙ liar_before is_lie sender n g told short below (any_arranged (is_lie_of is_lie sender g) is_lie sender told his))

-- ---- none is lost

count_bare : (f : Stroke → Bool) (xs : List Drawn) → count_by f (bare xs) ≡ count_by (λ (x : Drawn). f x.stroke) xs
count_bare f [] = refl
count_bare f (x ∷ xs) =
    let left = sum_by-cons (λ y. cond {A = ℕ} (f y) 1 0) x.stroke (bare xs) in
    let right = sum_by-cons (λ (y : Drawn). cond {A = ℕ} (f y.stroke) 1 0) x xs in
    let rest = count_bare f xs in
    omega arith

bare_rows : (xs : List Drawn) → strokes_with_rows (bare xs) ≡ bare (with_rows xs)
bare_rows [] = refl
bare_rows (x ∷ xs) = by_case (has_row x.stroke) (bare_rows xs)
  where
    by_case : (b : Bool) → strokes_with_rows (bare xs) ≡ bare (with_rows xs) → cond b (x.stroke ∷ strokes_with_rows (bare xs)) (strokes_with_rows (bare xs)) ≡ bare (cond b (x ∷ with_rows xs) (with_rows xs))
    by_case true rest = ap (λ ys. x.stroke ∷ ys) rest
    by_case false rest = rest

and_yes : (b : Bool) → (b && true) ≡ b
and_yes true = refl
and_yes false = refl

count_filter : (f g : Drawn → Bool) (xs : List Drawn) → count_by f (filter g xs) ≡ count_by (λ (x : Drawn). f x && g x) xs
count_filter f g [] = refl
count_filter f g (x ∷ xs) =
    let whole = sum_by-cons (λ (y : Drawn). cond {A = ℕ} (f y && g y) 1 0) x xs in
    let rest = count_filter f g xs in
    elim (cases_Bool (g x)) [
      | inl there ↦
          let first : count_by f (filter g (x ∷ xs)) ≡ count_by f (x ∷ filter g xs) = ap (λ b. count_by f (cond b (x ∷ filter g xs) (filter g xs))) there in
          let head = sum_by-cons (λ (y : Drawn). cond {A = ℕ} (f y) 1 0) x (filter g xs) in
          let one : cond {A = ℕ} (f x && g x) 1 0 ≡ cond {A = ℕ} (f x) 1 0 = ap (λ b. cond {A = ℕ} b 1 0) (ap (λ b. f x && b) there ∙ and_yes (f x)) in
          omega arith
      | inr lacks ↦
          let first : count_by f (filter g (x ∷ xs)) ≡ count_by f (filter g xs) = ap (λ b. count_by f (cond b (x ∷ filter g xs) (filter g xs))) lacks in
          let none : cond {A = ℕ} (f x && g x) 1 0 ≡ 0 = ap (λ b. cond {A = ℕ} b 1 0) (and_right (f x) (g x) lacks) in
          omega arith
    ]

-- The strokes that pass a test are those that are drawn and those that are left out.
counted_all : (f : Stroke → Bool) (xs : List Drawn) → count_by (λ (x : Drawn). f x.stroke) (with_rows xs) + count_by (λ (st : Stroke). is_past st && f st) (bare xs) ≡ count_by (λ (x : Drawn). f x.stroke) xs
counted_all f xs =
    let drawn : count_by f (strokes_with_rows (bare xs)) ≡ count_by (λ (x : Drawn). f x.stroke) (with_rows xs) = ap (count_by f) (bare_rows xs) ∙ count_bare f (with_rows xs) in
    let all : count_by f (bare xs) ≡ count_by (λ (x : Drawn). f x.stroke) xs = count_bare f xs in
    let both : count_by f (strokes_with_rows (bare xs)) + count_by (λ (st : Stroke). is_past st && f st) (bare xs) ≡ count_by f (bare xs) = kept f (bare xs) in
    omega arith

rows_counted : (c : Chronicle) (round p : ℕ) → length (drawn_in c round p) + count_by (is_left round p) (bare (strokes_of c)) ≡ length (list_in c round p)
rows_counted c round p =
    let S : List Drawn = strokes_of c in
    let drawn : length (drawn_in c round p) ≡ count_by (is_in round p) (with_rows S) = length-filter (is_in round p) (with_rows S) in
    let all : length (list_in c round p) ≡ count_by (is_in round p) S = length-filter (is_in round p) S in
    let both : count_by (is_in round p) (with_rows S) + count_by (is_left round p) (bare S) ≡ count_by (is_in round p) S = counted_all (is_to round p) S in
    omega arith

lies_counted : (c : Chronicle) (round p : ℕ) → count_by is_lie (drawn_in c round p) + count_by (is_left_lie round p) (bare (strokes_of c)) ≡ count_by is_lie (list_in c round p)
lies_counted c round p =
    let S : List Drawn = strokes_of c in
    let f : Drawn → Bool = λ x. is_lie_to round p x.stroke in
    let drawn : count_by is_lie (drawn_in c round p) ≡ count_by f (with_rows S) = count_filter is_lie (is_in round p) (with_rows S) in
    let all : count_by is_lie (list_in c round p) ≡ count_by f S = count_filter is_lie (is_in round p) S in
    let both : count_by f (with_rows S) + count_by (is_left_lie round p) (bare S) ≡ count_by f S = counted_all (is_lie_to round p) S in
    omega arith

pub proved_strokes_are_exact : StrokesAreExact
proved_strokes_are_exact = record {
  once = told_once;
  wide = λ c. All-from_recursion IsWide (strokes_of c) (wide_all c);
  told = λ c.
      All-from_recursion (λ (x : Drawn). All (IsTold c x.stroke) x.chains) (strokes_of c)
      (weaker (Tells c) (λ (x : Drawn). All (IsTold c x.stroke) x.chains) (strokes_of c) (λ x a. All-from_recursion (IsTold c x.stroke) x.chains a) (tells_all c));
}

pub proved_rows_are_exact : RowsAreExact
proved_rows_are_exact = record {
  numbered = rows_numbered;
  first = first_drawn;
  lies = λ c round p inside some few left. All-from_recursion (λ (x : Drawn). is_lie x ≡ true) (drawn_in c round p) (only_lies c round p inside some few left);
  liars = each_liar;
  counted = rows_counted;
  lies_counted = lies_counted;
}
