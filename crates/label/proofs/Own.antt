-- One level of the recursion of OM(m): the decisions about the children with the own value inserted.
use Rattle.std.proofs.Common.{ℕ, zero, suc, ◌<◌, ◌≤◌, ◌≡◌, ◌≢◌, false, cond, List, [], ◌∷◌, ◌++◌, map, length, refl, sym, ap, subst, ◌∙◌, arith, inl, inr, length-append}
use Rattle.std.specs.Prelude.{insert, ◌==◌}
use Rattle.std.proofs.lemmas.Bool.{cases_Bool, cases_eq, cond-true, cond-false, or_from, or_left, or_right, or_parts, eq-eqb, ne_eqb, true≢false}
use Rattle.label.specs.Labels.{on, others}
use Rattle.label.specs.Oral.{Messages, taken, om}
use Rattle.label.proofs.Counting.{map_agree, others-on}
use Rattle.label.proofs.Ranks.{others-more_no, others-more_yes}

-- Inserts an element, defined by recursion.
abbrev put : {A : Type 0} → ℕ → A → List A → List A
put zero y xs = y ∷ xs
put (suc i) y [] = y ∷ []
put (suc i) y (x ∷ xs) = x ∷ put i y xs

insert-put : {A : Type 0} (xs : List A) (i : ℕ) (y : A) → insert xs i y ≡ put i y xs
insert-put [] zero y = refl
insert-put [] (suc i) y = refl
insert-put (x ∷ xs) zero y = refl
insert-put (x ∷ xs) (suc i) y = ap (λ ys. x ∷ ys) (insert-put xs i y)

put-end : {A : Type 0} (xs : List A) (i : ℕ) (y : A) → i ≡ length xs → put i y xs ≡ xs ++ y ∷ []
put-end [] zero y e = refl
put-end [] (suc i) y e = absurd (omega arith)
put-end (x ∷ xs) zero y e = absurd (omega arith)
put-end (x ∷ xs) (suc i) y e = ap (λ ys. x ∷ ys) (put-end xs i y (omega arith))

put-append : {A : Type 0} (xs zs : List A) (i : ℕ) (y : A) → i ≤ length xs → put i y xs ++ zs ≡ put i y (xs ++ zs)
put-append [] zs zero y l = refl
put-append [] zs (suc i) y l = absurd (omega arith)
put-append (x ∷ xs) zs zero y l = refl
put-append (x ∷ xs) zs (suc i) y l = ap (λ ys. x ∷ ys) (put-append xs zs i y (omega arith))

put-map : {A B : Type 0} (f : A → B) (xs : List A) (i : ℕ) (y : A) → map f (put i y xs) ≡ put i (f y) (map f xs)
put-map f [] zero y = refl
put-map f [] (suc i) y = refl
put-map f (x ∷ xs) zero y = refl
put-map f (x ∷ xs) (suc i) y = ap (λ ys. f x ∷ ys) (put-map f xs i y)

-- Proves that a number which is not below the limit changes nothing.
others-beyond : (n p : ℕ) (w : List ℕ) → n ≤ p → others n (p ∷ w) ≡ others n w
others-beyond zero p w l = refl
others-beyond (suc n) p w l =
    let rest : others n (p ∷ w) ≡ others n w = others-beyond n p w (omega arith) in
    let ne : p ≢ n = omega arith in
    elim (cases_Bool (on w n)) [
      | inl it ↦ others-more_no (p ∷ w) n (or_right (p == n) (on w n) it) ∙ (rest ∙ sym (others-more_no w n it))
      | inr it ↦ others-more_yes (p ∷ w) n (or_from (p == n) (on w n) (ne_eqb p n ne) it) ∙ (ap (λ xs. xs ++ n ∷ []) rest ∙ sym (others-more_yes w n it))
    ]

before-le : (n p : ℕ) (w : List ℕ) → p ≤ n → length (others p w) ≤ length (others n (p ∷ w))
before-le zero p w l = let z : p ≡ 0 = omega arith in rw z (omega arith)
before-le (suc n) p w l =
    elim (cases_eq p (suc n)) [
      | inl same ↦
          let a : length (others (suc n) (p ∷ w)) ≡ length (others (suc n) w) = ap length (others-beyond (suc n) p w (omega arith)) in
          let b : length (others p w) ≡ length (others (suc n) w) = ap (λ (q : ℕ). length (others q w)) same in
          rw (a, b) (omega arith)
      | inr ne ↦
          let ih : length (others p w) ≤ length (others n (p ∷ w)) = before-le n p w (omega arith) in
          elim (cases_Bool (on (p ∷ w) n)) [
            | inl it ↦ rw (others-more_no (p ∷ w) n it) ih
            | inr it ↦ rw (others-more_yes (p ∷ w) n it) (omega (arith, length-append (others n (p ∷ w)) (n ∷ [])))
          ]
    ]

-- Proves that the generals not on w are those who are also not p, with p inserted at his position.
others-put : (n p : ℕ) (w : List ℕ) → p < n → on w p ≡ false → others n w ≡ put (length (others p w)) p (others n (p ∷ w))
others-put zero p w l o = absurd (omega arith)
others-put (suc n) p w l o =
    elim (cases_eq p n) [
      | inl same ↦
          let o' : on w n ≡ false = rw same at o in
          let P : ℕ → Type 0 = λ q. others (suc n) w ≡ put (length (others q w)) q (others (suc n) (q ∷ w)) in
          subst P (sym same) (others-more_yes w n o'
          ∙ (sym (put-end (others n w) (length (others n w)) n refl)
          ∙ ap (put (length (others n w)) n) (sym (others-more_no (n ∷ w) n (or_left (n == n) (on w n) (eq-eqb n n refl)) ∙ others-beyond n n w (omega arith)))))
      | inr ne ↦
          let ih : others n w ≡ put (length (others p w)) p (others n (p ∷ w)) = others-put n p w (omega arith) o in
          let before : length (others p w) ≤ length (others n (p ∷ w)) = before-le n p w (omega arith) in
          elim (cases_Bool (on w n)) [
            | inl it ↦ others-more_no w n it ∙ (ih ∙ ap (put (length (others p w)) p) (sym (others-more_no (p ∷ w) n (or_right (p == n) (on w n) it))))
            | inr it ↦ others-more_yes w n it ∙ (ap (λ xs. xs ++ n ∷ []) ih ∙ (put-append (others n (p ∷ w)) (n ∷ []) (length (others p w)) p before ∙ ap (put (length (others p w)) p) (sym (others-more_yes (p ∷ w) n (or_from (p == n) (on w n) (ne_eqb p n ne) it)))))
          ]
    ]

-- Proves that one level combines the decisions about the children, with the order that p took inserted at his
-- position.
pub om-level : (f : List ℕ → ℕ) (n : ℕ) (M : Messages) (k : ℕ) (w : List ℕ) (p : ℕ) → p < n → on w p ≡ false
    → om f n M (suc k) w p ≡ f (insert (map (λ j. om f n M k (w ++ j ∷ []) p) (others n (p ∷ w))) (length (others p w)) (taken M w p))
unfolding om
om-level f n M k w p l o = ap f
    (ap (map (λ j. cond (j == p) (taken M w p) (om f n M k (w ++ j ∷ []) p))) (others-put n p w l o)
    ∙ (put-map (λ j. cond (j == p) (taken M w p) (om f n M k (w ++ j ∷ []) p)) (others n (p ∷ w)) (length (others p w)) p
    ∙ (ap (λ v. put (length (others p w)) v (map (λ j. cond (j == p) (taken M w p) (om f n M k (w ++ j ∷ []) p)) (others n (p ∷ w)))) (cond-true (p == p) (taken M w p) (om f n M k (w ++ p ∷ []) p) (eq-eqb p p refl))
    ∙ (ap (put (length (others p w)) (taken M w p)) (map_agree (λ j. cond (j == p) (taken M w p) (om f n M k (w ++ j ∷ []) p)) (λ j. om f n M k (w ++ j ∷ []) p) (others n (p ∷ w)) (λ j i. let out = others-on n (p ∷ w) j i in cond-false (j == p) (taken M w p) (om f n M k (w ++ j ∷ []) p) (ne_eqb j p (λ e. not_p n w p j out.1 e))))
    ∙ sym (insert-put (map (λ j. om f n M k (w ++ j ∷ []) p) (others n (p ∷ w))) (length (others p w)) (taken M w p))))))
  where
    not_p : (n : ℕ) (w : List ℕ) (p j : ℕ) → on (p ∷ w) j ≡ false → j ≡ p → ⊥
    not_p n w p j o e = true≢false (sym (eq-eqb p j (sym e)) ∙ (or_parts (p == j) (on w j) o).0)
