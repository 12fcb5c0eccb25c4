-- The cheapest selection, choice by choice.
use Rattle.std.proofs.Common.{ℕ, ◌+◌, ◌-◌, ◌<◌, ◌≡◌, Bool, true, false, List, [], ◌∷◌, ◌++◌, map, length, take, get_or, refl, sym, ap, ◌∙◌, arith, Option, None, Some, append_assoc, length-append}
use Rattle.std.specs.Prelude.{filter, flat_map, nat_lt, ◌==◌}
use Rattle.std.proofs.lemmas.Bool.{cond-true, cond-false, lt-ltb, le-ltb, ltb-true, ltb-false}
use Rattle.std.proofs.lemmas.List.{append-nil, map-append, take_more, take-append-le, take_all}
use Rattle.std.proofs.lemmas.List.Concat.{flat_map-append}
use Rattle.std.proofs.lemmas.List.Elements.{filter-append}
use Rattle.lies.specs.Plans.{attacks, cheaper, cheapest, selections}
use Rattle.lies.specs.declared.choice.Choice.{Choice}

-- Returns the cheapest plan that passes a test, begins with B, and goes on with one of the choices cs that is `own` and with one of the rests S.
abbrev pub best_of : (List Choice → Bool) → List Choice → List (List Choice) → (Choice → Bool) → List Choice → Option (List Choice)
best_of passes B S own cs = cheapest (filter passes (map (λ rest. B ++ rest) (flat_map (λ choice. map (λ rest. choice ∷ rest) S) (filter own cs))))

-- Proves that the first of the cheapest of three plans is found in either order.
cheaper_none : (p : Option (List Choice)) → cheaper p None ≡ p
cheaper_none None = refl
cheaper_none (Some p) = refl

three_of : (p q r : List Choice) (rq : Bool) → nat_lt (attacks r) (attacks q) ≡ rq → (qp : Bool) → nat_lt (attacks q) (attacks p) ≡ qp → cheaper (Some p) (cheaper (Some q) (Some r)) ≡ cheaper (cheaper (Some p) (Some q)) (Some r)
three_of p q r true e true d =
    let l = ltb-true (attacks r) (attacks q) e in
    let k = ltb-true (attacks q) (attacks p) d in
    let b : nat_lt (attacks r) (attacks p) ≡ true = lt-ltb (attacks r) (attacks p) (omega arith) in
    rw (e, d) (rw (b, e) refl)
three_of p q r true e false d = rw (e, d) refl
three_of p q r false e true d = rw (e, d) (rw e refl)
three_of p q r false e false d =
    let l = ltb-false (attacks r) (attacks q) e in
    let k = ltb-false (attacks q) (attacks p) d in
    let b : nat_lt (attacks r) (attacks p) ≡ false = le-ltb (attacks r) (attacks p) (omega arith) in
    rw (e, d) (rw b refl)

cheaper_three : (p q r : Option (List Choice)) → cheaper p (cheaper q r) ≡ cheaper (cheaper p q) r
cheaper_three None q r = refl
cheaper_three (Some p) None r = refl
cheaper_three (Some p) (Some q) None = sym (cheaper_none (cheaper (Some p) (Some q)))
cheaper_three (Some p) (Some q) (Some r) = three_of p q r (nat_lt (attacks r) (attacks q)) refl (nat_lt (attacks q) (attacks p)) refl

pub cheapest_append : (ps qs : List (List Choice)) → cheapest (ps ++ qs) ≡ cheaper (cheapest ps) (cheapest qs)
unfolding cheapest
cheapest_append [] qs = refl
cheapest_append (p ∷ ps) qs = ap (cheaper (Some p)) (cheapest_append ps qs) ∙ cheaper_three (Some p) (cheapest ps) (cheapest qs)

pub best_none : (passes : List Choice → Bool) (B : List Choice) (S : List (List Choice)) (own : Choice → Bool) → best_of passes B S own [] ≡ None
unfolding cheapest
best_none passes B S own = refl

joined : (B : List Choice) (c : Choice) (S : List (List Choice)) → map (λ rest. B ++ rest) (map (λ rest. c ∷ rest) S) ≡ map (λ rest. (B ++ c ∷ []) ++ rest) S
joined B c [] = refl
joined B c (s ∷ S) =
    let here : B ++ (c ∷ s) ≡ (B ++ c ∷ []) ++ s = sym (append_assoc B (c ∷ []) s) in
    let rest : map (λ r. B ++ r) (map (λ r. c ∷ r) S) ≡ map (λ r. (B ++ c ∷ []) ++ r) S = joined B c S in
    cc

-- Proves what one choice more adds.
pub best_own : (passes : List Choice → Bool) (B : List Choice) (S : List (List Choice)) (own : Choice → Bool) (cs : List Choice) (c : Choice) → own c ≡ true
    → best_of passes B S own (cs ++ c ∷ []) ≡ cheaper (best_of passes B S own cs) (cheapest (filter passes (map (λ rest. (B ++ c ∷ []) ++ rest) S)))
best_own passes B S own cs c it =
    let F : Choice → List (List Choice) = λ choice. map (λ rest. choice ∷ rest) S in
    let G : List Choice → List Choice = λ rest. B ++ rest in
    let kept : filter own (cs ++ c ∷ []) ≡ filter own cs ++ c ∷ [] = filter-append own cs (c ∷ []) ∙ ap (λ ys. filter own cs ++ ys) (cond-true (own c) (c ∷ []) [] it) in
    let flat : flat_map F (filter own (cs ++ c ∷ [])) ≡ flat_map F (filter own cs) ++ F c =
    ap (flat_map F) kept ∙ (flat_map-append F (filter own cs) (c ∷ []) ∙ ap (λ ys. flat_map F (filter own cs) ++ ys) (append-nil (F c)))
    in
    ap (λ ys. cheapest (filter passes (map G ys))) flat
    ∙ (ap (λ ys. cheapest (filter passes ys)) (map-append G (flat_map F (filter own cs)) (F c))
    ∙ (ap cheapest (filter-append passes (map G (flat_map F (filter own cs))) (map G (F c)))
    ∙ (cheapest_append (filter passes (map G (flat_map F (filter own cs)))) (filter passes (map G (F c)))
    ∙ ap (λ ys. cheaper (best_of passes B S own cs) (cheapest (filter passes ys))) (joined B c S))))

pub best_other : (passes : List Choice → Bool) (B : List Choice) (S : List (List Choice)) (own : Choice → Bool) (cs : List Choice) (c : Choice) → own c ≡ false → best_of passes B S own (cs ++ c ∷ []) ≡ best_of passes B S own cs
best_other passes B S own cs c it =
    let kept : filter own (cs ++ c ∷ []) ≡ filter own cs =
    filter-append own cs (c ∷ []) ∙ (ap (λ ys. filter own cs ++ ys) (cond-false (own c) (c ∷ []) [] it) ∙ append-nil (filter own cs))
    in
    ap (λ ys. cheapest (filter passes (map (λ rest. B ++ rest) (flat_map (λ choice. map (λ rest. choice ∷ rest) S) ys)))) kept

-- Proves that all choices together give the selections.
pub best_all : (passes : List Choice → Bool) (B choices : List Choice) (j : ℕ) (js : List ℕ) → best_of passes B (selections choices js) (λ choice. choice.general == j) choices ≡ cheapest (filter passes (map (λ rest. B ++ rest) (selections choices (j ∷ js))))
unfolding selections
best_all passes B choices j js = refl

-- Proves the step of the loop over the choices, at a choice for the general.
pub step_own : (passes : List Choice → Bool) (B : List Choice) (S : List (List Choice)) (own : Choice → Bool) (cs : List Choice) (i : ℕ) (d : Choice) → i < length cs → own (get_or cs i d) ≡ true → (old new part : Option (List Choice)) (pushed : List Choice)
    → old ≡ best_of passes B S own (take i cs) → pushed ≡ B ++ get_or cs i d ∷ [] → part ≡ cheapest (filter passes (map (λ rest. pushed ++ rest) S)) → new ≡ cheaper old part → new ≡ best_of passes B S own (take (i + 1) cs)
step_own passes B S own cs i d l it old new part pushed eo eb ep en =
    en
    ∙ ((λ k. cheaper (eo k) (ep k))
    ∙ (ap (λ (p : List Choice). cheaper (best_of passes B S own (take i cs)) (cheapest (filter passes (map (λ rest. p ++ rest) S)))) eb
    ∙ sym (ap (best_of passes B S own) (take_more cs i d l) ∙ best_own passes B S own (take i cs) (get_or cs i d) it)))

-- Proves the step of the loop over the choices, at a choice for another general.
pub step_other : (passes : List Choice → Bool) (B : List Choice) (S : List (List Choice)) (own : Choice → Bool) (cs : List Choice) (i : ℕ) (d : Choice) → i < length cs → own (get_or cs i d) ≡ false → best_of passes B S own (take i cs) ≡ best_of passes B S own (take (i + 1) cs)
step_other passes B S own cs i d l it = sym (ap (best_of passes B S own) (take_more cs i d l) ∙ best_other passes B S own (take i cs) (get_or cs i d) it)

-- Proves that a list from which the last element was taken is the list before.
pub popped : (xs ys : List Choice) (z : Choice) → ys ≡ xs ++ z ∷ [] → take (length ys - 1) ys ≡ xs
popped xs ys z e =
    let long : length ys ≡ length xs + 1 = ap length e ∙ length-append xs (z ∷ []) in
    let short : length ys - 1 ≡ length xs = omega arith in
    (λ k. take (short k) (e k)) ∙ (take-append-le (length xs) xs (z ∷ []) (omega arith) ∙ take_all (length xs) xs (omega arith))

-- Proves what is selected for no generals.
pub whole_passes : (passes : List Choice → Bool) (B choices : List Choice) (js : List ℕ) → length js ≡ 0 → passes B ≡ true → cheapest (filter passes (map (λ rest. B ++ rest) (selections choices js))) ≡ Some B
unfolding cheapest selections
whole_passes passes B choices [] e h = rw (append-nil B, h) refl
whole_passes passes B choices (j ∷ js) e h = absurd (omega arith)

pub whole_fails : (passes : List Choice → Bool) (B choices : List Choice) (js : List ℕ) → length js ≡ 0 → passes B ≡ false → cheapest (filter passes (map (λ rest. B ++ rest) (selections choices js))) ≡ None
unfolding cheapest selections
whole_fails passes B choices [] e h = rw (append-nil B, h) refl
whole_fails passes B choices (j ∷ js) e h = absurd (omega arith)
