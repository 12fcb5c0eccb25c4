-- Lists of labels that are empty.
use Rattle.std.proofs.Common.{ℕ, zero, suc, ◌-◌, ◌<◌, ◌≤◌, ◌≡◌, ◌≢◌, Bool, true, false, not, ◌&&◌, List, [], ◌∷◌, map, length, refl, sym, ap, ◌∙◌, arith, inl, inr}
use Rattle.std.specs.Prelude.{filter, nat_lt, ◌==◌, ◌⊎◌}
use Rattle.std.specs.List.{list_all}
use Rattle.std.proofs.lemmas.Bool.{cond-false, cases_eq, or_left, or_parts, and_parts, eq-eqb, eqb-true, eqb-false, not-true, false≢true}
use Rattle.label.specs.Labels.{on, is_distinct, sequences, lacks, labels}
use Rattle.label.specs.declared.space.Space.{Space}
use Rattle.label.specs.Space.{IsSpace, IsWithinLimits, labels_of, is_label_of, begins_with}
use Rattle.label.proofs.Places.{count_is_product}

none_pass : {A B : Type 0} (t : B → Bool) (f : A → B) (xs : List A) → ((x : A) → t (f x) ≡ false) → filter t (map f xs) ≡ []
none_pass t f [] h = refl
none_pass t f (x ∷ xs) h = cond-false (t (f x)) (f x ∷ filter t (map f xs)) (filter t (map f xs)) (h x) ∙ none_pass t f xs h

-- Proves that no label lacks the commander, since he is on every label.
pub commander-on_all : (n c k : ℕ) → labels n c c k ≡ []
unfolding labels
commander-on_all n c zero = refl
commander-on_all n c (suc k) = none_pass (lacks c) (λ v. c ∷ v) (sequences n k) (λ v. here (is_distinct (c ∷ v)) (on (c ∷ v) c) (or_left (c == c) (on v c) (eq-eqb c c refl)))
  where
    here : (a b : Bool) → b ≡ true → (a && not b) ≡ false
    here true true e = refl
    here true false e = sym e
    here false b e = refl

-- Proves that no label has as many generals as there are.
pub past-the_generals : (n c p k : ℕ) → c < n → p < n → p ≢ c → n ≤ k → length (labels n c p k) ≡ 0
past-the_generals n c p zero inside within ne l = absurd (omega arith)
past-the_generals n c p (suc zero) inside within ne l = absurd (omega arith)
past-the_generals n c p (suc (suc k)) inside within ne l =
    let none : n - 2 - k ≡ 0 = omega arith in
    rw (count_is_product n c p k inside within ne, none) (omega arith)

-- Proves that the list is empty for one of these reasons.
pub none-listed : (s : Space) (k : ℕ) → IsWithinLimits s → (k ≡ 0) ⊎ ((s.generals ≤ k) ⊎ (s.general ≡ s.commander)) → 0 ≡ length (labels_of s k)
unfolding labels
none-listed s k is why = elim (cases_eq s.general s.commander) [
  | inl same ↦ rw same (sym (ap length (commander-on_all s.generals s.commander k)))
  | inr ne ↦ elim why [
    | inl z ↦ rw z (sym (ap length (nothing s)))
    | inr more ↦ elim more [
      | inl l ↦ sym (past-the_generals s.generals s.commander s.general k is.commander is.general ne l)
      | inr same ↦ absurd (ne same)
    ]
  ]
]
  where
    nothing : (s : Space) → labels s.generals s.commander s.general 0 ≡ []
    nothing s = refl

-- Proves that if a list is a label that the space's general is not on, he is a lieutenant.
pub lieutenant-lacks : (s : Space) (w : List ℕ) → IsWithinLimits s → is_label_of s w ≡ true → IsSpace s
lieutenant-lacks s [] is e = absurd (false≢true e)
lieutenant-lacks s (x ∷ xs) is e =
    let outer = and_parts (begins_with s.commander (x ∷ xs) && list_all (λ y. nat_lt y s.generals) (x ∷ xs)) (not (on (x ∷ xs) s.general)) e in
    let first : x ≡ s.commander = eqb-true x s.commander (and_parts (begins_with s.commander (x ∷ xs)) (list_all (λ y. nat_lt y s.generals) (x ∷ xs)) outer.0).0 in
    let apart : x ≢ s.general = eqb-false x s.general (or_parts (x == s.general) (on xs s.general) (not-true (on (x ∷ xs) s.general) outer.1)).0 in
    record { generals = is.generals; commander = is.commander; general = is.general; lieutenant = λ same. apart (first ∙ sym same) }

-- Proves that if a rank exists, the space's general is a lieutenant, and the label has 1 to 13 generals.
pub lieutenant-has : (s : Space) (k r : ℕ) → IsWithinLimits s → r < length (labels_of s k) → IsSpace s × (0 < k) × (k ≤ 13)
lieutenant-has s k r is l =
    let lieutenant : s.general ≢ s.commander = λ e. none s k r is (inr (inr e)) l in
    let some : 0 < k = positive k (λ z. none s k r is (inl z) l) in
    let short : k < s.generals = below k s.generals (λ h. none s k r is (inr (inl h)) l) in
    let few = is.generals in
    (record { generals = is.generals; commander = is.commander; general = is.general; lieutenant = lieutenant }, some, omega arith)
  where
    none : (s : Space) (k r : ℕ) → IsWithinLimits s → (k ≡ 0) ⊎ ((s.generals ≤ k) ⊎ (s.general ≡ s.commander)) → r < length (labels_of s k) → ⊥
    none s k r is why l = let z : 0 ≡ length (labels_of s k) = none-listed s k is why in omega arith

    positive : (k : ℕ) → (k ≡ 0 → ⊥) → 0 < k
    positive zero h = absurd (h refl)
    positive (suc k) h = omega arith

    below : (k n : ℕ) → (n ≤ k → ⊥) → k < n
    below k n h = omega arith
