-- A label that is extended general by general consists of different generals.
use Rattle.std.proofs.Common.{◌≡◌, ℕ, ◌+◌, ◌≤◌, ◌<◌, Bool, true, false, not, ◌&&◌, cond, List, [], ◌∷◌, ◌++◌, length, Option, Some, None, refl, sym, ap, ◌∙◌, arith, inl, inr, length-append}
use Rattle.std.specs.Prelude.{◌==◌, nat_lt, nat_le, if◌then◌else◌}
use Rattle.std.specs.List.{list_all}
use Rattle.std.proofs.lemmas.List.{append-nil, append_assoc}
use Rattle.std.proofs.lemmas.Bool.Decides.{nat_tests}
use Rattle.std.proofs.lemmas.Bool.{and_parts, not-true, leb-true, le-leb, cases_Bool, cases_eq, ne_eqb, lt-ltb, eq-eqb, or_left, or_right, or_cases, eqb-true}
use Rattle.label.specs.Labels.{on, is_distinct}
use Rattle.label.proofs.Counting.{distinct-push}
use Rattle.text.specs.Options.{◌>>=◌}
use Rattle.book.specs.Table.{MessageTable}
use Rattle.book.specs.Grammar.{is_place}
use Rattle.book.specs.Reading.{prolonged_label, begun_label, placed_label}

on_middle : (w : List ℕ) (j : ℕ) (js : List ℕ) → on (w ++ j ∷ js) j ≡ true
on_middle [] j js = or_left (j == j) (on js j) (eq-eqb j j refl)
on_middle (x ∷ xs) j js = or_right (x == j) (on (xs ++ j ∷ js) j) (on_middle xs j js)

and_never : (b : Bool) → (b && false) ≡ false
and_never true = refl
and_never false = refl

-- A general who is on a label twice.
pub twice : (w : List ℕ) (j : ℕ) (js : List ℕ) → on w j ≡ true → is_distinct (w ++ j ∷ js) ≡ false
twice [] j js e = cc
twice (x ∷ xs) j js e =
    elim (or_cases (x == j) (on xs j) e) [
      | inl here ↦
          let same : x ≡ j = eqb-true x j here in
          let there : on (xs ++ j ∷ js) x ≡ true = rw same (on_middle xs j js) in
          rw there refl
      | inr there ↦ rw (twice xs j js there) (and_never (not (on (xs ++ j ∷ js) x)))
    ]

-- The tests of a whole label.
abbrev pub fits : ℕ → ℕ → List ℕ → List ℕ → Bool
fits n m w js = is_distinct (w ++ js) && list_all (λ x. nat_lt x n) js && nat_le (length (w ++ js)) (m + 1)

refused_here : (n m : ℕ) (w : List ℕ) (j : ℕ) (js : List ℕ) → (nat_le (length w) m && nat_lt j n && not (on w j)) ≡ false → fits n m w (j ∷ js) ≡ false
refused_here n m w j js e =
    elim (cases_Bool (on w j)) [
      | inl it ↦ rw (twice w j js it) refl
      | inr off ↦ grind (arith, nat_tests, length-append w (j ∷ js))
    ]

taken_here : (n m : ℕ) (w : List ℕ) (j : ℕ) (js : List ℕ) → nat_lt j n ≡ true → fits n m w (j ∷ js) ≡ fits n m (w ++ j ∷ []) js
taken_here n m w j js e = rw (e, append_assoc w (j ∷ []) js) refl

step : (n m : ℕ) (w : List ℕ) (j : ℕ) (js : List ℕ) (more : Option (List ℕ)) → is_distinct w ≡ true
    → (is_distinct (w ++ j ∷ []) ≡ true → length (w ++ j ∷ []) ≤ m + 1 → more ≡ cond (fits n m (w ++ j ∷ []) js) (Some ((w ++ j ∷ []) ++ js)) None)
    → (if nat_le (length w) m && nat_lt j n && not (on w j) then more else None) ≡ cond (fits n m w (j ∷ js)) (Some (w ++ j ∷ js)) None
step n m w j js more d ih =
    elim (cases_Bool (nat_le (length w) m && nat_lt j n && not (on w j))) [
      | inl good ↦
          let long = and_parts (nat_le (length w) m && nat_lt j n) (not (on w j)) good in
          let short = and_parts (nat_le (length w) m) (nat_lt j n) long.0 in
          let fresh : on w j ≡ false = not-true (on w j) long.1 in
          let room : length w ≤ m = leb-true (length w) m short.0 in
          rw good (ih (distinct-push w j d fresh) (omega (arith, length-append w (j ∷ [])))
          ∙ (ap (λ (b : Bool). cond b (Some ((w ++ j ∷ []) ++ js)) None) (sym (taken_here n m w j js short.1))
          ∙ ap (λ (v : List ℕ). cond (fits n m w (j ∷ js)) (Some v) None) (append_assoc w (j ∷ []) js)))
      | inr bad ↦ rw (bad, refused_here n m w j js bad) refl
    ]

-- The extended label is the whole list, if that is a label.
pub prolonged_label-whole : (n m : ℕ) (w js : List ℕ) → is_distinct w ≡ true → length w ≤ m + 1 → prolonged_label n m w js ≡ cond (fits n m w js) (Some (w ++ js)) None
unfolding prolonged_label
prolonged_label-whole n m w [] d l = rw (append-nil w, d, le-leb (length w) (m + 1) l) refl
prolonged_label-whole n m w (j ∷ js) d l = step n m w j js (prolonged_label n m (w ++ j ∷ []) js) d (λ d' l'. prolonged_label-whole n m (w ++ j ∷ []) js d' l')

all_tests : (d a l p o : Bool) (w : List ℕ) (f : List ℕ → Option (List ℕ)) → f w ≡ (if o then None else Some w)
    → (if p then (cond (d && a && l) (Some w) None >>= f) else None) ≡ (if d && true && a && l && p && not o then Some w else None)
all_tests false a l true o w f e = refl
all_tests false a l false o w f e = refl
all_tests true false l true o w f e = refl
all_tests true false l false o w f e = refl
all_tests true true false true o w f e = refl
all_tests true true false false o w f e = refl
all_tests true true true false o w f e = refl
all_tests true true true true true w f e = e
all_tests true true true true false w f e = e

no_test : (b : Bool) → cond {A = Option (List ℕ)} b None None ≡ None
no_test true = refl
no_test false = refl

-- A label that begins with the commander is read as a whole.
pub begun_label-whole : (t : MessageTable) (w v : List ℕ) → begun_label t w ≡ Some v → w ≡ v
unfolding begun_label
begun_label-whole t [] v e = cc
begun_label-whole t (c ∷ js) v e =
    elim (cases_eq c t.commander) [
      | inl same ↦
          let read : cond (fits t.generals t.bound (t.commander ∷ []) js) (Some (t.commander ∷ js)) None ≡ Some v =
          sym (prolonged_label-whole t.generals t.bound (t.commander ∷ []) js refl (omega arith)) ∙ rw (same, eq-eqb t.commander t.commander refl) at e in
          ap (λ (x : ℕ). x ∷ js) same ∙ chosen (fits t.generals t.bound (t.commander ∷ []) js) (t.commander ∷ js) v read
      | inr ne ↦ let none : None ≡ Some v = rw (ne_eqb c t.commander ne) at e in cc
    ]
  where
    chosen : (b : Bool) (x y : List ℕ) → cond b (Some x) None ≡ Some y → x ≡ y
    chosen true x y e = cc
    chosen false x y e = cc

-- The reader's label is the line's, if it is one of the campaign.
pub placed_label-is : (t : MessageTable) (w : List ℕ) (p : ℕ) → t.commander < t.generals → placed_label t w p ≡ (if is_place t w p then Some w else None)
unfolding placed_label begun_label
placed_label-is t [] p inside = no_test (nat_lt p t.generals)
placed_label-is t (c ∷ js) p inside =
    elim (cases_eq c t.commander) [
      | inl same ↦
          let within : nat_lt t.commander t.generals ≡ true = lt-ltb t.commander t.generals inside in
          rw (same, eq-eqb t.commander t.commander refl, prolonged_label-whole t.generals t.bound (t.commander ∷ []) js refl (omega arith), within)
          (all_tests (is_distinct (t.commander ∷ js)) (list_all (λ x. nat_lt x t.generals) js) (nat_le (length (t.commander ∷ js)) (t.bound + 1)) (nat_lt p t.generals) (on (t.commander ∷ js) p) (t.commander ∷ js) (λ w. if on w p then None else Some w) refl)
      | inr ne ↦ rw (ne_eqb c t.commander ne, and_never (is_distinct (c ∷ js))) (no_test (nat_lt p t.generals))
    ]
