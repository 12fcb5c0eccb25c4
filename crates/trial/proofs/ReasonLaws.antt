-- If a call sets no place for a label that is relayed, the reason in its note is true.
use Rattle.std.proofs.Common.{◌≡◌, ◌≢◌, ◌∙◌, ℕ, zero, suc, ◌+◌, ◌-◌, ◌<◌, min, List, [], ◌∷◌, ◌++◌, length, Bool, true, false, cond, ◌||◌, refl, sym, ap, arith}
use Rattle.std.specs.Prelude.{Some, None, if◌then◌else◌, ◌==◌, ◌&&◌, slice_get}
use Rattle.std.proofs.lemmas.Bool.{eq-eqb, ne_eqb}
use Rattle.label.specs.declared.shape.Shape.{Shape}
use Rattle.label.specs.Labels.{on, others}
use Rattle.label.specs.Relay.{receivers}
use Rattle.label.proofs.Bounds.{others_here}
use Rattle.label.proofs.Counting.{on-push, others-distinct}
use Rattle.label.proofs.Counts.{on-get}
use Rattle.semantics.specs.Relay.{Relay, relayed}
use Rattle.semantics.specs.Outbox.{Choice, along_row, as_taken, at_place, at_receiver, places_set, taken_value}
use Rattle.semantics.proofs.PlacesLaws.{row_from, rows_from, sets, sets_in, sets_in-cons}
use Rattle.outbox.proofs.Writing.{sets_along, sets_one}
use Rattle.trial.specs.TraceLaws.{ReasonsHold}

-- Proves that if no row is set, the row of a given label is not set.
none_here : (choice : Choice) (s : Shape) (a i : ℕ) (ws : List (List ℕ)) (w : List ℕ) → sets_in choice (rows_from s a ws) ≡ 0 → slice_get ws i ≡ Some w
    → sets choice (row_from (a + i) 0 (receivers s w)) ≡ 0
none_here choice s a i [] w none at = absurd (let h = at in cc)
none_here choice s a zero (v ∷ ws) w none at =
    let same : v ≡ w = let h = at in cc in
    let all : sets choice (row_from a 0 (receivers s v)) + sets_in choice (rows_from s (a + 1) ws) ≡ 0 = sym (sets_in-cons choice (row_from a 0 (receivers s v)) (rows_from s (a + 1) ws)) ∙ none in
    let here : sets choice (row_from a 0 (receivers s v)) ≡ 0 = omega arith in
    let at_first : a + 0 ≡ a = omega arith in
    ap (λ (k : ℕ). sets choice (row_from k 0 (receivers s w))) at_first ∙ (ap (λ (l : List ℕ). sets choice (row_from a 0 (receivers s l))) (sym same) ∙ here)
none_here choice s a (suc i) (v ∷ ws) w none at =
    let all : sets choice (row_from a 0 (receivers s v)) + sets_in choice (rows_from s (a + 1) ws) ≡ 0 = sym (sets_in-cons choice (row_from a 0 (receivers s v)) (rows_from s (a + 1) ws)) ∙ none in
    let rest : sets_in choice (rows_from s (a + 1) ws) ≡ 0 = omega arith in
    let further : a + suc i ≡ a + 1 + i = omega arith in
    ap (λ (k : ℕ). sets choice (row_from k 0 (receivers s w))) further ∙ none_here choice s (a + 1) i ws w rest at

unset : (b : Bool) → cond {A = ℕ} b 1 0 ≡ 0 → b ≡ false
unset true e = absurd (let no : ⊥ = omega arith in no)
unset false e = refl

-- Proves that a general whom a label does not go to is its sender, or is on it.
stands_on : (s : Shape) (w : List ℕ) (receiver : ℕ) → receiver < s.generals → receiver ≢ s.general → on (receivers s w) receiver ≡ false → on w receiver ≡ true
stands_on s w receiver below other absent = by (on w receiver) refl
  where
    by : (b : Bool) → on w receiver ≡ b → on w receiver ≡ true
    by true is = is
    by false is =
        let apart : (s.general == receiver) ≡ false = ne_eqb s.general receiver (λ e. other (sym e)) in
        let off : on (w ++ s.general ∷ []) receiver ≡ false = on-push w s.general receiver ∙ (ap (λ (b : Bool). b || s.general == receiver) is ∙ apart) in
        let heard : on (receivers s w) receiver ≡ true = on-get (receivers s w) (length (others receiver (w ++ s.general ∷ []))) receiver (others_here s.generals (w ++ s.general ∷ []) _ receiver below off refl) in
        let clash : true ≡ false = sym heard ∙ absent in
        absurd cc

-- Proves the claim for a choice that depends on the receiver in the label's row.
by_receiver : (r : Relay) (choice : Choice) (receiver order rank : ℕ) (label : List ℕ)
    → ((b n : ℕ) → choice (record { rank = rank; number = b; receiver = n }) ≡ (if n == receiver then Some order else None))
    → slice_get (relayed r) rank ≡ Some label → places_set r choice ≡ 0 → receiver < r.shape.generals → receiver ≢ r.shape.general → on label receiver ≡ true
by_receiver r choice receiver order rank label goes at none below other =
    let row : sets choice (row_from (0 + rank) 0 (receivers r.shape label)) ≡ 0 = none_here choice r.shape 0 rank (relayed r) label none at in
    let first : rank ≡ 0 + rank = omega arith in
    let own : sets choice (row_from rank 0 (receivers r.shape label)) ≡ 0 = ap (λ (k : ℕ). sets choice (row_from k 0 (receivers r.shape label))) first ∙ row in
    let distinct = others-distinct r.shape.generals (label ++ r.shape.general ∷ []) in
    stands_on r.shape label receiver below other
    (unset (on (receivers r.shape label) receiver) (sym (sets_one choice receiver order rank goes 0 (receivers r.shape label) distinct) ∙ own))

at_label : (rank receiver order b n : ℕ) → at_place rank receiver order (record { rank = rank; number = b; receiver = n }) ≡ (if n == receiver then Some order else None)
at_label rank receiver order b n = ap (λ (t : Bool). if t && (n == receiver) then Some order else None) (eq-eqb rank rank refl)

along_label : (rank : ℕ) (orders : List ℕ) (b n : ℕ) → along_row rank orders (record { rank = rank; number = b; receiver = n }) ≡ slice_get orders b
along_label rank orders b n = ap (λ (t : Bool). if t then slice_get orders b else None) (eq-eqb rank rank refl)

nobody : (ns : List ℕ) (n : ℕ) → min (length ns) (n - 0) ≡ 0 → n ≢ 0 → ns ≡ []
nobody [] n none some = refl
nobody (m ∷ ns) n none some =
    let least : min (suc (length ns)) (n - 0) ≡ 0 = none in
    let zero_orders : n ≡ 0 = omega arith in
    absurd (some zero_orders)

along_none : (r : Relay) (rank : ℕ) (orders label : List ℕ) → slice_get (relayed r) rank ≡ Some label → places_set r (along_row rank orders) ≡ 0 → length orders ≢ 0 → receivers r.shape label ≡ []
along_none r rank orders label at none some =
    let row : sets (along_row rank orders) (row_from (0 + rank) 0 (receivers r.shape label)) ≡ 0 = none_here (along_row rank orders) r.shape 0 rank (relayed r) label none at in
    let first : rank ≡ 0 + rank = omega arith in
    let own : sets (along_row rank orders) (row_from rank 0 (receivers r.shape label)) ≡ 0 = ap (λ (k : ℕ). sets (along_row rank orders) (row_from k 0 (receivers r.shape label))) first ∙ row in
    nobody (receivers r.shape label) (length orders) (sym (sets_along (along_row rank orders) rank orders (along_label rank orders) 0 (receivers r.shape label)) ∙ own) some

pub reasons_are : ReasonsHold
reasons_are = record {
  place = λ r rank receiver order label at none below other. by_receiver r (at_place rank receiver order) receiver order rank label (at_label rank receiver order) at none below other;
  row = along_none;
  same = λ r receiver order rank label at none below other. by_receiver r (at_receiver receiver order) receiver order rank label (λ b n. refl) at none below other;
  taken = λ r context receiver rank label at none below other.
      by_receiver r (as_taken context receiver) receiver (taken_value context rank) rank label (λ b n. refl) at none below other;
}
