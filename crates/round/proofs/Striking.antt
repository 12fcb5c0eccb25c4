-- The generals off a label, of whom one is excluded.
use Rattle.std.proofs.Common.{◌≡◌, ◌≢◌, ℕ, zero, suc, ◌+◌, ◌<◌, ◌≤◌, List, [], ◌∷◌, ◌++◌, length, take, get_or, Bool, true, false, not, ◌||◌, cond, refl, sym, ap, ◌∙◌, Some, arith, ⊎_elim, length-append, inl, inr}
use Rattle.std.specs.Prelude.{slice_get, ◌==◌, nat_lt, filter}
use Rattle.std.proofs.lemmas.Bool.{cases_Bool, eq-eqb, ltb-false, ltb-true, ne_eqb}
use Rattle.std.proofs.lemmas.Bool.Decides.{eqb_tells}
use Rattle.std.proofs.lemmas.Option.{slice_get_within, slice_get-get_or}
use Rattle.label.specs.Labels.{on, others, generals}
use Rattle.label.proofs.Counting.{others-on}
use Rattle.label.proofs.Counts.{on-get}
use Rattle.label.proofs.Ranks.{others-more_no, others-more_yes, eqb_sym}
use Rattle.outbox.specs.Receivers.{struck}
use Rattle.std.proofs.Math.Seq.{take-length}

-- One more name is considered.
next_struck : (p i : ℕ) (names : List ℕ) → i < length names → length (struck p (take (suc i) names)) ≡ length (struck p (take i names)) + cond {A = ℕ} (get_or names i 0 == p) 0 1
next_struck p i [] lt = absurd (omega arith)
next_struck p zero (x ∷ names) lt = one (x == p)
  where
    one : (b : Bool) → length (cond {A = List ℕ} (not b) (x ∷ []) []) ≡ 0 + cond {A = ℕ} b 0 1
    one true = refl
    one false = refl
next_struck p (suc i) (x ∷ names) lt = more (x == p) (next_struck p i names (omega arith))
  where
    more : (b : Bool) → length (struck p (take (suc i) names)) ≡ length (struck p (take i names)) + cond {A = ℕ} (get_or names i 0 == p) 0 1
        → length (cond {A = List ℕ} (not b) (x ∷ struck p (take (suc i) names)) (struck p (take (suc i) names))) ≡ length (cond {A = List ℕ} (not b) (x ∷ struck p (take i names)) (struck p (take i names))) + cond {A = ℕ} (get_or names i 0 == p) 0 1
    more true e = e
    more false e = omega arith

struck_more : (p i : ℕ) (names : List ℕ) → i < length names → length (struck p (take (i + 1) names)) ≡ length (struck p (take i names)) + cond {A = ℕ} (get_or names i 0 == p) 0 1
struck_more p i names lt = let e : i + 1 ≡ suc i = omega arith in ap (λ (k : ℕ). length (struck p (take k names))) e ∙ next_struck p i names lt

pub struck_next : (p x i : ℕ) (names : List ℕ) → i < length names → x ≡ get_or names i 0 → x ≢ p → length (struck p (take (i + 1) names)) ≡ length (struck p (take i names)) + 1
struck_next p x i names lt at ne =
    let other : (get_or names i 0 == p) ≡ false = ne_eqb (get_or names i 0) p (λ e. ne (at ∙ e)) in
    struck_more p i names lt ∙ ap (λ (b : Bool). length (struck p (take i names)) + cond {A = ℕ} b 0 1) other

pub struck_same : (p x i : ℕ) (names : List ℕ) → i < length names → x ≡ get_or names i 0 → x ≡ p → length (struck p (take (i + 1) names)) ≡ length (struck p (take i names))
struck_same p x i names lt at e =
    let it : (get_or names i 0 == p) ≡ true = eq-eqb (get_or names i 0) p (sym at ∙ e) in
    struck_more p i names lt ∙ (ap (λ (b : Bool). length (struck p (take i names)) + cond {A = ℕ} b 0 1) it ∙ (omega arith))

-- How many of the first names remain, before and after the excluded one.
pub struck_before : (p : ℕ) (names : List ℕ) (i : ℕ) → i ≤ length names → ((j : ℕ) → j < i → get_or names j 0 ≢ p) → length (struck p (take i names)) ≡ i
struck_before p names zero le others_only = refl
struck_before p names (suc i) le others_only =
    let before : length (struck p (take i names)) ≡ i = struck_before p names i (omega arith) (λ j lt. others_only j (omega arith)) in
    let more : length (struck p (take (suc i) names)) ≡ length (struck p (take i names)) + cond {A = ℕ} (get_or names i 0 == p) 0 1 = next_struck p i names (omega arith) in
    let one : cond {A = ℕ} (get_or names i 0 == p) 0 1 ≡ 1 = ap (λ (b : Bool). cond {A = ℕ} b 0 1) (ne_eqb (get_or names i 0) p (others_only i (omega arith))) in
    omega arith

pub struck_past : (p : ℕ) (names : List ℕ) (own more : ℕ) → own + more < length names → get_or names own 0 ≡ p → ((j : ℕ) → j < own + more + 1 → j ≢ own → get_or names j 0 ≢ p) → length (struck p (take (own + more + 1) names)) ≡ own + more
struck_past p names own zero lt it apart =
    let before : length (struck p (take own names)) ≡ own = struck_before p names own (omega arith) (λ j less. apart j (omega arith) (λ e. absurd (omega arith))) in
    let here : length (struck p (take (own + 1) names)) ≡ length (struck p (take own names)) = struck_same p (get_or names own 0) own names (omega arith) refl it in
    let e : own + 0 + 1 ≡ own + 1 = omega arith in
    ap (λ (k : ℕ). length (struck p (take k names))) e ∙ (here ∙ (before ∙ (omega arith)))
struck_past p names own (suc more) lt it apart =
    let before : length (struck p (take (own + more + 1) names)) ≡ own + more = struck_past p names own more (omega arith) it (λ j less. apart j (omega arith)) in
    let next : length (struck p (take (own + more + 1 + 1) names)) ≡ length (struck p (take (own + more + 1) names)) + 1 =
    struck_next p (get_or names (own + more + 1) 0) (own + more + 1) names (omega arith) refl (apart (own + more + 1) (omega arith) (λ e. absurd (omega arith))) in
    let e : own + suc more + 1 ≡ own + more + 1 + 1 = omega arith in
    ap (λ (k : ℕ). length (struck p (take k names))) e ∙ (next ∙ (omega arith))

-- One more general is excluded.
struck_filter : (p : ℕ) (w xs : List ℕ) → struck p (filter (λ x. not (on w x)) xs) ≡ filter (λ x. not (on (p ∷ w) x)) xs
struck_filter p w [] = refl
struck_filter p w (x ∷ xs) =
    let rest : struck p (filter (λ x. not (on w x)) xs) ≡ filter (λ x. not (on (p ∷ w) x)) xs = struck_filter p w xs in
    rw (eqb_sym p x, ← rest) (tests (x == p) refl (on w x) (filter (λ x. not (on w x)) xs))
  where
    tests : (a : Bool) → (x == p) ≡ a → (b : Bool) (ys : List ℕ) → struck p (cond {A = List ℕ} (not b) (x ∷ ys) ys) ≡ cond {A = List ℕ} (not (a || b)) (x ∷ struck p ys) (struck p ys)
    tests true e true ys = refl
    tests true e false ys = rw e refl
    tests false e true ys = refl
    tests false e false ys = rw e refl

pub struck_others : (n p : ℕ) (w : List ℕ) → struck p (others n w) ≡ others n (p ∷ w)
struck_others n p w = struck_filter p w (generals n)

-- The names before an index are those below the one at the index.
take_left : (i : ℕ) (xs ys : List ℕ) → i ≤ length xs → take i (xs ++ ys) ≡ take i xs
take_left zero xs ys le = refl
take_left (suc i) [] ys le = absurd (omega arith)
take_left (suc i) (x ∷ xs) ys le = ap (λ zs. x ∷ zs) (take_left i xs ys (omega arith))

get_left : (i x : ℕ) (xs ys : List ℕ) → i < length xs → slice_get (xs ++ ys) i ≡ Some x → slice_get xs i ≡ Some x
get_left i x [] ys lt e = absurd (omega arith)
get_left zero x (y ∷ xs) ys lt e = e
get_left (suc i) x (y ∷ xs) ys lt e = get_left i x xs ys (omega arith) e

get_last : (x y : ℕ) (xs : List ℕ) → slice_get (xs ++ y ∷ []) (length xs) ≡ Some x → x ≡ y
get_last x y [] e = cc
get_last x y (z ∷ xs) e = get_last x y xs e

pub take_others : (n i x : ℕ) (w : List ℕ) → slice_get (others n w) i ≡ Some x → take i (others n w) ≡ others x w
take_others zero i x w at = cc
take_others (suc n) i x w at = elim (cases_Bool (on w n)) [
  | inl it ↦
      ap (take i) (others-more_no w n it) ∙ take_others n i x w (sym (ap (λ xs. slice_get xs i) (others-more_no w n it)) ∙ at)
  | inr it ↦
      let at' : slice_get (others n w ++ n ∷ []) i ≡ Some x = sym (ap (λ xs. slice_get xs i) (others-more_yes w n it)) ∙ at in
      let long = length-append (others n w) (n ∷ []) in
      let low : i < length (others n w ++ n ∷ []) = slice_get_within (others n w ++ n ∷ []) i x at' in
      ap (take i) (others-more_yes w n it) ∙ ⊎_elim
      (λ (q : (i == length (others n w) ≡ true) × (i ≡ length (others n w))).
      let last : x ≡ n = get_last x n (others n w) (sym (ap (λ (k : ℕ). slice_get (others n w ++ n ∷ []) k) q.1) ∙ at') in
      ap (λ (k : ℕ). take k (others n w ++ n ∷ [])) q.1 ∙ (take_left (length (others n w)) (others n w) (n ∷ []) (omega arith) ∙ (take-length (others n w) ∙ ap (λ (k : ℕ). others k w) (sym last))))
      (λ (q : (i == length (others n w) ≡ false) × (i ≢ length (others n w))).
      let less : i < length (others n w) = let ne = q.1 in omega arith in
      take_left i (others n w) (n ∷ []) (omega arith) ∙ take_others n i x w (get_left i x (others n w) (n ∷ []) less at'))
      (eqb_tells i (length (others n w)))
]

-- The name at an index of the generals off a label.
pub take_get : (k i : ℕ) (xs : List ℕ) → i < k → slice_get (take k xs) i ≡ slice_get xs i
take_get zero i xs lt = absurd (omega arith)
take_get (suc k) i [] lt = refl
take_get (suc k) zero (x ∷ xs) lt = refl
take_get (suc k) (suc i) (x ∷ xs) lt = take_get k i xs (omega arith)

pub take_twice : (k i : ℕ) (xs : List ℕ) → i ≤ k → take i (take k xs) ≡ take i xs
take_twice k zero xs le = refl
take_twice zero (suc i) xs le = absurd (omega arith)
take_twice (suc k) (suc i) [] le = refl
take_twice (suc k) (suc i) (x ∷ xs) le = ap (λ zs. x ∷ zs) (take_twice k i xs (omega arith))

-- States that a general is at this index.
pub record IsNamed (n p x i : ℕ) (w names : List ℕ) : Type 0 where
  pub within : x < n
  pub off : on w x ≡ false
  pub below : length (struck p (take i names)) ≡ length (others x (p ∷ w))

pub named : (n p x i count : ℕ) (w names : List ℕ) → take count names ≡ others n w → i < count → i < length names → x ≡ get_or names i 0 → IsNamed n p x i w names
named n p x i count w names all lt room at =
    let there : slice_get names i ≡ Some x = slice_get-get_or names i 0 room ∙ ap Some (sym at) in
    let here : slice_get (others n w) i ≡ Some x = sym (ap (λ xs. slice_get xs i) all) ∙ (take_get count i names lt ∙ there) in
    let parts = others-on n w x (on-get (others n w) i x here) in
    record {
      within = parts.0;
      off = parts.1;
      below = ap (λ xs. length (struck p xs)) (sym (take_twice count i names (omega arith)) ∙ (ap (take i) all ∙ take_others n i x w here)) ∙ ap length (struck_others x p w);
    }

-- The names ascend.
pub ascend : (n i j count : ℕ) (w names : List ℕ) → take count names ≡ others n w → i < j → j < count → j < length names → get_or names i 0 < get_or names j 0
ascend n i j count w names all less lt room =
    let last : slice_get (others n w) j ≡ Some (get_or names j 0) = sym (ap (λ xs. slice_get xs j) all) ∙ (take_get count j names lt ∙ slice_get-get_or names j 0 room) in
    let below : take j names ≡ others (get_or names j 0) w = sym (take_twice count j names (omega arith)) ∙ (ap (take j) all ∙ take_others n j (get_or names j 0) w last) in
    let first : slice_get (others (get_or names j 0) w) i ≡ Some (get_or names i 0) = sym (ap (λ xs. slice_get xs i) below) ∙ (take_get j i names less ∙ slice_get-get_or names i 0 (omega arith)) in
    (others-on (get_or names j 0) w (get_or names i 0) (on-get (others (get_or names j 0) w) i (get_or names i 0) first)).0

pub different : (n i j count : ℕ) (w names : List ℕ) → take count names ≡ others n w → i ≢ j → i < count → j < count → count ≤ length names → get_or names i 0 ≢ get_or names j 0
different n i j count w names all ne li lj room e = elim (cases_Bool (nat_lt i j)) [
  | inl it ↦ let less : i < j = ltb-true i j it in let up = ascend n i j count w names all less lj (omega arith) in absurd (omega arith)
  | inr it ↦ let le : j ≤ i = ltb-false i j it in let up = ascend n j i count w names all (omega arith) li (omega arith) in absurd (omega arith)
]
