-- What the conditions of a table mean.
use Rattle.std.proofs.Common.{ℕ, zero, suc, ◌*◌, ◌≤◌, ◌≡◌, Bool, true, false, List, [], ◌∷◌, map, refl, sym, ap, ◌∙◌, arith, inl, inr, Option, Some, None}
use Rattle.std.specs.Prelude.{◌==◌, ◌↔◌, nat_lt, nat_le, if◌then◌else◌}
use Rattle.std.specs.List.{list_all}
use Rattle.std.proofs.lemmas.Bool.{cases_Bool, and_parts, and_from, or_left, or_cases, or_parts, or_from, eq-eqb, eqb-true, eqb-false, ne_eqb, lt-ltb, ltb-true, le-leb, leb-true, true≢false}
use Rattle.combine.specs.Rule.{combined_by}
use Rattle.combine.specs.Laws.{chosen_is_rule}
use Rattle.label.specs.Labels.{on}
use Rattle.label.specs.Lieutenants.{lieutenants}
use Rattle.label.specs.Oral.{IsBound, Agree}
use Rattle.label.proofs.Counting.{others-on}
use Rattle.label.proofs.Counts.{among}
use Rattle.book.specs.declared.conditions.Obedience.{Obedience}
use Rattle.book.specs.declared.conditions.Obedience.TheVariants.{Traitor, Obeyed, Disobeyed}
use Rattle.book.specs.Conditions.{are_alike, is_told, same_order, obedience_to, obedience_in, judged, loyal, loyal_decisions, sent, named_in}
use Rattle.book.specs.Consistency.{IsLoyal, DecideAlike, DecideOn, TellsAll, IsWithin, IsTrusted, ConditionsMean}
use Rattle.book.specs.Decisions.{decision_of}
use Rattle.book.specs.Table.{MessageTable, told}
use Rattle.book.proofs.Induction.{holds}
use Rattle.book.proofs.Gathering.{on_behind}

pub head_on : (x : ℕ) (xs : List ℕ) → on (x ∷ xs) x ≡ true
head_on x xs = or_left (x == x) (on xs x) (eq-eqb x x refl)

-- All items of a list are the same.
all_from : (F : ℕ → ℕ) (v : ℕ) (xs : List ℕ) → ((p : ℕ) → on xs p ≡ true → F p ≡ v) → list_all (λ d. d == v) (map F xs) ≡ true
all_from F v [] h = refl
all_from F v (x ∷ xs) h = and_from (F x == v) (list_all (λ d. d == v) (map F xs)) (eq-eqb (F x) v (h x (head_on x xs))) (all_from F v xs (λ p i. h p (on_behind x p xs i)))

all_to : (F : ℕ → ℕ) (v : ℕ) (xs : List ℕ) → list_all (λ d. d == v) (map F xs) ≡ true → (p : ℕ) → on xs p ≡ true → F p ≡ v
all_to F v [] a p i = absurd (true≢false (sym i))
all_to F v (x ∷ xs) a p i =
    let both = and_parts (F x == v) (list_all (λ d. d == v) (map F xs)) a in
    elim (or_cases (x == p) (on xs p) i) [
      | inl here ↦ ap F (sym (eqb-true x p here)) ∙ eqb-true (F x) v both.0
      | inr there ↦ all_to F v xs both.1 p there
    ]

alike_from : (F : ℕ → ℕ) (xs : List ℕ) → ((p q : ℕ) → on xs p ≡ true → on xs q ≡ true → F p ≡ F q) → are_alike (map F xs) ≡ true
alike_from F [] h = refl
alike_from F (x ∷ xs) h = all_from F (F x) xs (λ p i. h p x (on_behind x p xs i) (head_on x xs))

alike_to : (F : ℕ → ℕ) (xs : List ℕ) → are_alike (map F xs) ≡ true → (p q : ℕ) → on xs p ≡ true → on xs q ≡ true → F p ≡ F q
alike_to F [] a p q i j = absurd (true≢false (sym i))
alike_to F (x ∷ xs) a p q i j =
    let all : list_all (λ d. d == F x) (map F (x ∷ xs)) ≡ true = and_from (F x == F x) (list_all (λ d. d == F x) (map F xs)) (eq-eqb (F x) (F x) refl) a in
    all_to F (F x) (x ∷ xs) all p i ∙ sym (all_to F (F x) (x ∷ xs) all q j)

-- The order that was received is this one.
told_to : (v : ℕ) (o : Option ℕ) → is_told v o ≡ true → o ≡ Some v
told_to v None e = absurd (true≢false (sym e))
told_to v (Some u) e = ap Some (eqb-true u v e)

told_from : (v : ℕ) (o : Option ℕ) → o ≡ Some v → is_told v o ≡ true
told_from v o e = rw e (eq-eqb v v refl)

all_told_from : (G : ℕ → Option ℕ) (v : ℕ) (xs : List ℕ) → ((p : ℕ) → on xs p ≡ true → G p ≡ Some v) → list_all (is_told v) (map G xs) ≡ true
all_told_from G v [] h = refl
all_told_from G v (x ∷ xs) h = and_from (is_told v (G x)) (list_all (is_told v) (map G xs)) (told_from v (G x) (h x (head_on x xs))) (all_told_from G v xs (λ p i. h p (on_behind x p xs i)))

all_told_to : (G : ℕ → Option ℕ) (v : ℕ) (xs : List ℕ) → list_all (is_told v) (map G xs) ≡ true → (p : ℕ) → on xs p ≡ true → G p ≡ Some v
all_told_to G v [] a p i = absurd (true≢false (sym i))
all_told_to G v (x ∷ xs) a p i =
    let both = and_parts (is_told v (G x)) (list_all (is_told v) (map G xs)) a in
    elim (or_cases (x == p) (on xs p) i) [
      | inl here ↦ ap G (sym (eqb-true x p here)) ∙ told_to v (G x) both.0
      | inr there ↦ all_told_to G v xs both.1 p there
    ]

first_told : (v u : ℕ) (os : List (Option ℕ)) → (if list_all (is_told u) os then Some u else None) ≡ Some v → (u ≡ v) × (list_all (is_told u) os ≡ true)
first_told v u os e = elim (cases_Bool (list_all (is_told u) os)) [
  | inl it ↦ (let h : Some u ≡ Some v = rw it at e in let k : u ≡ v = cc in k, it)
  | inr fails ↦ (let h : ◌≡◌ {A = Option ℕ} None (Some v) = rw fails at e in cc)
]

same_first : (v : ℕ) (o : Option ℕ) (os : List (Option ℕ)) → same_order (o ∷ os) ≡ Some v → (o ≡ Some v) × (list_all (is_told v) os ≡ true)
same_first v None os e = cc
same_first v (Some u) os e =
    let both = first_told v u os e in
    (ap Some both.0, ap (λ x. list_all (is_told x) os) (sym both.0) ∙ both.1)

same_to : (G : ℕ → Option ℕ) (v : ℕ) (xs : List ℕ) → same_order (map G xs) ≡ Some v → (p : ℕ) → on xs p ≡ true → G p ≡ Some v
same_to G v [] e p i = cc
same_to G v (x ∷ xs) e p i =
    let both = same_first v (G x) (map G xs) e in
    all_told_to G v (x ∷ xs) (and_from (is_told v (G x)) (list_all (is_told v) (map G xs)) (told_from v (G x) both.0) both.1) p i

same_from : (G : ℕ → Option ℕ) (v : ℕ) (xs : List ℕ) (some : ℕ) → on xs some ≡ true → ((p : ℕ) → on xs p ≡ true → G p ≡ Some v) → same_order (map G xs) ≡ Some v
same_from G v [] some there h = absurd (true≢false (sym there))
same_from G v (x ∷ xs) some there h =
    let first : G x ≡ Some v = h x (head_on x xs) in
    let rest : list_all (is_told v) (map G xs) ≡ true = all_told_from G v xs (λ p i. h p (on_behind x p xs i)) in
    rw (first, rest) refl

loyal_among : (t : MessageTable) (traitors : List ℕ) (p : ℕ) → IsLoyal t traitors p → on (loyal t traitors) p ≡ true
loyal_among t traitors p h =
    among t.generals (t.commander ∷ traitors) p h.general (or_from (t.commander == p) (on traitors p) (ne_eqb t.commander p (λ e. h.lieutenant (sym e))) h.loyal)

among_loyal : (t : MessageTable) (traitors : List ℕ) (p : ℕ) → on (loyal t traitors) p ≡ true → IsLoyal t traitors p
among_loyal t traitors p i =
    let there = others-on t.generals (t.commander ∷ traitors) p i in
    let both = or_parts (t.commander == p) (on traitors p) there.1 in
    record { general = there.0; lieutenant = λ e. eqb-false t.commander p both.0 (sym e); loyal = both.1 }

-- The bound.
bound_means : (t : MessageTable) (traitors : List ℕ) → ((judged t traitors).bound ≡ true) ↔ IsBound t.generals t.bound (on traitors)
unfolding judged
bound_means t traitors = (
  λ e.
      let both = and_parts (nat_lt (3 * t.bound) t.generals) (nat_le (named_in t traitors) t.bound) e in
      record { enough = ltb-true (3 * t.bound) t.generals both.0; few = leb-true (named_in t traitors) t.bound both.1 },
  λ h. and_from (nat_lt (3 * t.bound) t.generals) (nat_le (named_in t traitors) t.bound) (lt-ltb (3 * t.bound) t.generals h.enough) (le-leb (named_in t traitors) t.bound h.few),
)

-- IC1
alike_means : (t : MessageTable) (traitors : List ℕ) → ((judged t traitors).alike ≡ true) ↔ DecideAlike t traitors
unfolding judged loyal_decisions
alike_means t traitors = (
  λ e p q hp hq. alike_to (decision_of t) (loyal t traitors) e p q (loyal_among t traitors p hp) (loyal_among t traitors q hq),
  λ h. alike_from (decision_of t) (loyal t traitors) (λ p q i j. h p q (among_loyal t traitors p i) (among_loyal t traitors q j)),
)

-- All lieutenants who are not named decide on this order.
decide_to : (t : MessageTable) (traitors : List ℕ) (order : ℕ) → list_all (λ d. d == order) (loyal_decisions t traitors) ≡ true → DecideOn t traitors order
unfolding loyal_decisions
decide_to t traitors order e p h = all_to (decision_of t) order (loyal t traitors) e p (loyal_among t traitors p h)

decide_from : (t : MessageTable) (traitors : List ℕ) (order : ℕ) → DecideOn t traitors order → list_all (λ d. d == order) (loyal_decisions t traitors) ≡ true
unfolding loyal_decisions
decide_from t traitors order h = all_from (decision_of t) order (loyal t traitors) (λ p i. h p (among_loyal t traitors p i))

-- The commander sent this order to all.
tells_to : (t : MessageTable) (order : ℕ) → same_order (sent t) ≡ Some order → TellsAll t order
unfolding sent
tells_to t order e p l ne =
    same_to (told t.messages (t.commander ∷ [])) order (lieutenants t.generals t.commander) e p (among t.generals (t.commander ∷ []) p l (or_from (t.commander == p) false (ne_eqb t.commander p (λ s. ne (sym s))) refl))

a_lieutenant : (n c : ℕ) → 2 ≤ n → (p : ℕ) × (on (lieutenants n c) p ≡ true)
a_lieutenant n zero l = (1, among n (0 ∷ []) 1 (omega arith) refl)
a_lieutenant n (suc c) l = (0, among n (suc c ∷ []) 0 (omega arith) (or_from (suc c == 0) false (ne_eqb (suc c) 0 (λ e. absurd (omega arith))) refl))

tells_from : (t : MessageTable) (order : ℕ) → IsWithin t → TellsAll t order → same_order (sent t) ≡ Some order
unfolding sent
tells_from t order within h =
    let relays = within.relays in
    let some = a_lieutenant t.generals t.commander (omega arith) in
    same_from (told t.messages (t.commander ∷ [])) order (lieutenants t.generals t.commander) some.0 some.1
    (λ p i.
    let there = others-on t.generals (t.commander ∷ []) p i in
    let off = or_parts (t.commander == p) false there.1 in
    h p there.0 (λ e. eqb-false t.commander p off.0 (sym e)))

-- What the result of obedience means.
to_obeyed : (o : Option ℕ) (ds : List ℕ) (order : ℕ) → obedience_to o ds ≡ Obeyed order → (o ≡ Some order) × (list_all (λ d. d == order) ds ≡ true)
to_obeyed None ds order e = cc
to_obeyed (Some v) ds order e = elim (cases_Bool (list_all (λ d. d == v) ds)) [
  | inl it ↦ (let h : Obeyed v ≡ Obeyed order = rw it at e in let same : v ≡ order = cc in (ap Some same, ap (λ x. list_all (λ d. d == x) ds) (sym same) ∙ it))
  | inr fails ↦ (let h : Disobeyed v ≡ Obeyed order = rw fails at e in cc)
]

to_disobeyed : (o : Option ℕ) (ds : List ℕ) (order : ℕ) → obedience_to o ds ≡ Disobeyed order → (o ≡ Some order) × (list_all (λ d. d == order) ds ≡ false)
to_disobeyed None ds order e = cc
to_disobeyed (Some v) ds order e = elim (cases_Bool (list_all (λ d. d == v) ds)) [
  | inl it ↦ (let h : Obeyed v ≡ Disobeyed order = rw it at e in cc)
  | inr fails ↦ (let h : Disobeyed v ≡ Disobeyed order = rw fails at e in let same : v ≡ order = cc in (ap Some same, ap (λ x. list_all (λ d. d == x) ds) (sym same) ∙ fails))
]

to_traitor : (o : Option ℕ) (ds : List ℕ) → obedience_to o ds ≡ Traitor → ⊥
to_traitor None ds e = cc
to_traitor (Some v) ds e = elim (cases_Bool (list_all (λ d. d == v) ds)) [
  | inl it ↦ (let h : Obeyed v ≡ Traitor = rw it at e in cc)
  | inr fails ↦ (let h : Disobeyed v ≡ Traitor = rw fails at e in cc)
]

unnamed : (b : Bool) (o : Option ℕ) (ds : List ℕ) (x : Obedience) → (x ≡ Traitor → ⊥) → obedience_in b o ds ≡ x → (b ≡ false) × (obedience_to o ds ≡ x)
unnamed true o ds x ne e = absurd (ne (sym e))
unnamed false o ds x ne e = (refl, e)

named : (b : Bool) (o : Option ℕ) (ds : List ℕ) → obedience_in b o ds ≡ Traitor → b ≡ true
named true o ds e = refl
named false o ds e = absurd (to_traitor o ds e)

traitor_means : (t : MessageTable) (traitors : List ℕ) → ((judged t traitors).obedience ≡ Traitor) ↔ (on traitors t.commander ≡ true)
unfolding judged
traitor_means t traitors = (
  λ e. named (on traitors t.commander) (same_order (sent t)) (loyal_decisions t traitors) e,
  λ h. rw h refl,
)

obeyed_means : (t : MessageTable) (traitors : List ℕ) (order : ℕ) → IsWithin t → ((judged t traitors).obedience ≡ Obeyed order) ↔ ((on traitors t.commander ≡ false) × TellsAll t order × DecideOn t traitors order)
unfolding judged
obeyed_means t traitors order within = (
  λ e.
      let both = unnamed (on traitors t.commander) (same_order (sent t)) (loyal_decisions t traitors) (Obeyed order) (λ z. cc) e in
      let parts = to_obeyed (same_order (sent t)) (loyal_decisions t traitors) order both.1 in
      (both.0, tells_to t order parts.0, decide_to t traitors order parts.1),
  λ h. rw (h.0, tells_from t order within h.1, decide_from t traitors order h.2) refl,
)

disobeyed_means : (t : MessageTable) (traitors : List ℕ) (order : ℕ) → IsWithin t → ((judged t traitors).obedience ≡ Disobeyed order) ↔ ((on traitors t.commander ≡ false) × TellsAll t order × (DecideOn t traitors order → ⊥))
unfolding judged
disobeyed_means t traitors order within = (
  λ e.
      let both = unnamed (on traitors t.commander) (same_order (sent t)) (loyal_decisions t traitors) (Disobeyed order) (λ z. cc) e in
      let parts = to_disobeyed (same_order (sent t)) (loyal_decisions t traitors) order both.1 in
      (both.0, tells_to t order parts.0, λ all. true≢false (sym (decide_from t traitors order all) ∙ parts.1)),
  λ h.
      let fails : list_all (λ d. d == order) (loyal_decisions t traitors) ≡ false = elim (cases_Bool (list_all (λ d. d == order) (loyal_decisions t traitors))) [ inl it ↦ absurd (h.2 (decide_to t traitors order it)) | inr fails ↦ fails ] in
      rw (h.0, tells_from t order within h.1, fails) refl,
)

-- If the agreement theorem applies, both conditions hold.
agrees : (t : MessageTable) (traitors : List ℕ) (order : ℕ) → IsWithin t → IsTrusted t traitors order → Agree t.generals t.commander order (on traitors) (decision_of t)
unfolding decision_of
agrees t traitors order within h = holds (combined_by t.rule) (chosen_is_rule t.rule) t.generals t.commander t.bound order (on traitors) (told t.messages) within.present h.bound h.faithful

kept_means : (t : MessageTable) (traitors : List ℕ) (order : ℕ) → IsWithin t → IsTrusted t traitors order → ((judged t traitors).alike ≡ true) × (on traitors t.commander ≡ false → (judged t traitors).obedience ≡ Obeyed order)
kept_means t traitors order within h =
    let all = agrees t traitors order within h in (
      (alike_means t traitors).1 all.alike,
      λ good. (obeyed_means t traitors order within).1 (
        good,
        (λ p l ne. h.faithful t.commander within.present good [] p (record { first = refl; below = (within.present, tt); distinct = refl }) (omega arith) l (or_from (t.commander == p) false (ne_eqb t.commander p (λ s. ne (sym s))) refl)),
        all.obeyed good,
      ),
    )

-- The law, as specs/Consistency states it.
pub proved_conditions_mean : ConditionsMean
proved_conditions_mean = record { bound = bound_means; alike = alike_means; traitor = traitor_means; obeyed = obeyed_means; disobeyed = disobeyed_means; kept = kept_means }
