-- A decision depends only on the messages to its lieutenant, and each label that he is not on is in the list.
use Rattle.std.proofs.Common.{ℕ, zero, suc, ◌+◌, ◌-◌, ◌*◌, ◌<◌, ◌≤◌, ◌≡◌, ◌≢◌, false, cond, List, [], ◌∷◌, ◌++◌, length, take, get_or, sym, ap, ◌∙◌, arith, inl, inr, Some, length-append}
use Rattle.std.specs.Prelude.{◌==◌, slice_get}
use Rattle.std.proofs.lemmas.Bool.{or_from}
use Rattle.std.proofs.lemmas.Bool.Decides.{eqb_tells}
use Rattle.std.proofs.lemmas.List.{take_all}
use Rattle.label.specs.Labels.{on, others, labels}
use Rattle.label.specs.Oral.{IsLabel, BeginsWith, Messages, taken, om}
use Rattle.label.proofs.Counting.{on-push, others-on, map_agree}
use Rattle.label.proofs.Pushes.{IsLabel-push}
use Rattle.label.proofs.Places.{first_label}
use Rattle.label.proofs.Bounds.{rank-more}

same_entry : (f : List ℕ → ℕ) (n c last p : ℕ) (M N : Messages) → ((w : List ℕ) → IsLabel n c w → on w p ≡ false → length w ≤ last → taken M w p ≡ taken N w p)
    → (k : ℕ) (w : List ℕ) → IsLabel n c w → on w p ≡ false → length w + suc k ≤ last → (j : ℕ) → (j < n) × (on w j ≡ false)
    → (IsLabel n c (w ++ j ∷ []) → on (w ++ j ∷ []) p ≡ false → length (w ++ j ∷ []) + k ≤ last → om f n M k (w ++ j ∷ []) p ≡ om f n N k (w ++ j ∷ []) p)
    → cond (j == p) (taken M w p) (om f n M k (w ++ j ∷ []) p) ≡ cond (j == p) (taken N w p) (om f n N k (w ++ j ∷ []) p)
same_entry f n c last p M N same k w a o l j i ih =
    elim (eqb_tells j p) [
      | inl here ↦ rw here.0 (same w a o (omega arith))
      | inr apart ↦ rw apart.0 (ih (IsLabel-push a j i.0 i.1) (on-push w j p ∙ or_from (on w p) (j == p) o apart.0) (omega (arith, length-append w (j ∷ []))))
    ]

first_taken : (n c p : ℕ) (w : List ℕ) → p ≢ c → BeginsWith c w → slice_get (labels n c p 1) 0 ≡ Some (take 1 w)
first_taken n c p [] ne b = absurd b
first_taken n c p (x ∷ xs) ne b = ap (λ ys. slice_get ys 0) (first_label n c p ne) ∙ ap (λ y. Some (y ∷ [])) (sym b)

-- Proves that the decision of p depends only on messages to him, for labels of at most `last` generals that he is not
-- on.
pub om-same : (f : List ℕ → ℕ) (n c last p : ℕ) (M N : Messages) → ((w : List ℕ) → IsLabel n c w → on w p ≡ false → length w ≤ last → taken M w p ≡ taken N w p)
    → (k : ℕ) (w : List ℕ) → IsLabel n c w → on w p ≡ false → length w + k ≤ last → om f n M k w p ≡ om f n N k w p
unfolding om
om-same f n c last p M N same zero w a o l = same w a o (omega arith)
om-same f n c last p M N same (suc k) w a o l =
    ap f (map_agree (λ j. cond (j == p) (taken M w p) (om f n M k (w ++ j ∷ []) p)) (λ j. cond (j == p) (taken N w p) (om f n N k (w ++ j ∷ []) p)) (others n w)
    (λ j i. same_entry f n c last p M N same k w a o l j (others-on n w j i) (λ a' o' l'. om-same f n c last p M N same k (w ++ j ∷ []) a' o' l')))

-- Proves that each first part of a label that p is not on has a rank.
stands_upto : (n c p : ℕ) (w : List ℕ) → c < n → p < n → p ≢ c → IsLabel n c w → on w p ≡ false → (i : ℕ) → suc i ≤ length w → (r : ℕ) × (slice_get (labels n c p (suc i)) r ≡ Some (take (suc i) w))
stands_upto n c p w inside within ne a o zero l = (0, first_taken n c p w ne a.first)
stands_upto n c p w inside within ne a o (suc i) l =
    let before = stands_upto n c p w inside within ne a o i (omega arith) in
    let e : suc i + 1 ≡ suc (suc i) = omega arith in
    (before.0 * (n - 1 - suc i) + length (others (get_or w (suc i) 0) (p ∷ take (suc i) w)), rw e at (rank-more n c p w inside within ne a.below a.distinct o (suc i) before.0 (omega arith) (omega arith) before.1))

-- Proves that each label that p is not on has a rank.
pub label_stands : (n c p : ℕ) (w : List ℕ) → c < n → p < n → p ≢ c → IsLabel n c w → on w p ≡ false → (r : ℕ) × (slice_get (labels n c p (length w)) r ≡ Some w)
label_stands n c p [] inside within ne a o = absurd a.first
label_stands n c p (x ∷ xs) inside within ne a o =
    let all = stands_upto n c p (x ∷ xs) inside within ne a o (length xs) (omega arith) in
    (all.0, all.1 ∙ ap Some (take_all (suc (length xs)) (x ∷ xs) (omega arith)))
