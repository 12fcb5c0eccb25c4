-- How many generals below a limit are not on a list.
use Rattle.std.proofs.Common.{ℕ, ◌+◌, ◌<◌, ◌≤◌, ◌≡◌, Bool, true, false, not, List, [], ◌∷◌, ◌++◌, length, refl, sym, ap, ◌∙◌, arith}
use Rattle.std.specs.Prelude.{◌==◌, ◌||◌}
use Rattle.std.proofs.lemmas.List.Elements.{filter_agree}
use Rattle.label.specs.Labels.{on, others, generals}
use Rattle.label.proofs.Counting.{on-push, rest_sum-absent, length-sum, range-on_within}

-- Proves that a general who is not below the limit changes nothing.
pub absent : (n : ℕ) (w : List ℕ) (j : ℕ) → n ≤ j → length (others n (w ++ j ∷ [])) ≡ length (others n w)
absent n w j l =
    length-sum (others n (w ++ j ∷ [])) ∙ (rest_sum-absent (λ x. 1) w j (generals n) (off n j l) ∙ sym (length-sum (others n w)))
  where
    truth : (b : Bool) → (b ≡ true → ⊥) → b ≡ false
    truth true h = absurd (h refl)
    truth false h = refl

    off : (n j : ℕ) → n ≤ j → on (generals n) j ≡ false
    off n j l = truth (on (generals n) j) (λ t. let h : j < 0 + n = range-on_within 0 n j t in omega arith)

-- Proves that a general counts the same as the first or the last of a list.
pub turned : (n : ℕ) (w : List ℕ) (p : ℕ) → others n (p ∷ w) ≡ others n (w ++ p ∷ [])
turned n w p = filter_agree (λ j. not (on (p ∷ w) j)) (λ j. not (on (w ++ p ∷ []) j)) (λ j. ap not (same w p j)) (generals n)
  where
    swap_or : (a b : Bool) → (a || b) ≡ (b || a)
    swap_or true true = refl
    swap_or true false = refl
    swap_or false true = refl
    swap_or false false = refl

    same : (w : List ℕ) (p j : ℕ) → on (p ∷ w) j ≡ on (w ++ p ∷ []) j
    same w p j = swap_or (p == j) (on w j) ∙ sym (on-push w p j)
