-- The recursion over ranks gives the same decisions as the recursion over labels.
use Rattle.std.proofs.Common.{ℕ, zero, suc, ◌+◌, ◌-◌, ◌*◌, ◌<◌, ◌≤◌, ◌≡◌, false, not, List, [], ◌∷◌, ◌++◌, map, length, refl, sym, ap, ◌∙◌, arith, inl, inr, Some, None}
use Rattle.std.specs.Prelude.{insert, filter, slice_get, unwrap_or}
use Rattle.std.specs.List.{range_with_len}
use Rattle.std.proofs.lemmas.Bool.{cases_lt}
use Rattle.label.specs.Labels.{on, others, labels}
use Rattle.label.specs.Oral.{Messages, om, taken, order_of}
use Rattle.label.proofs.Counting.{others-on}
use Rattle.label.proofs.Listing.{proved_labels_are_exact}
use Rattle.label.proofs.Own.{om-level}
use Rattle.label.proofs.Places.{first_label, children_stand}
use Rattle.label.proofs.Ranks.{others-count}
use Rattle.std.proofs.lemmas.List.FromFn.{length-range_with_len}
use Rattle.tree.specs.LieutenantTree.{LieutenantTree, IsCampaign, IsFilled, level_of, level_told}
use Rattle.tree.proofs.Levels.{levels-at, told-at}
use Rattle.resolve.specs.Decided.{decided, child_lower_off, order_at_rank}
use Rattle.label.proofs.Below.{absent}
use Rattle.label.proofs.Counts.{on-get}
use Rattle.label.proofs.Parts.{by_place, wide}
use Rattle.resolve.proofs.Below.{child-below}
use Rattle.std.proofs.lemmas.Option.{get_or_from_slice_get}

-- Proves which order the tree contains for a label.
pub order-told : (t : LieutenantTree) (M : Messages) (size rank : ℕ) (w : List ℕ) → IsFilled t M → 0 < size → size ≤ t.bound + 1 → slice_get (labels t.generals t.commander t.general size) rank ≡ Some w → order_at_rank t size rank ≡ taken M w t.general
order-told t M size rank w f some short at =
    let up : 1 + (size - 1) ≡ size = omega arith in
    let level : level_of t size ≡ level_told t.generals t.commander t.general M size =
    ap (λ ls. unwrap_or (slice_get ls (size - 1)) []) f ∙ (ap (λ o. unwrap_or o []) (levels-at t.generals t.commander t.general M 1 (t.bound + 1) (size - 1) (omega arith)) ∙ ap (λ (k : ℕ). level_told t.generals t.commander t.general M k) up)
    in
    ap order_of (get_or_from_slice_get (level_of t size) rank (M w t.general) None (told-at t.generals t.commander t.general size rank M w (level_of t size) level at))

-- Proves the step of the recursion from what is known of the children.
step : (f : List ℕ → ℕ) (t : LieutenantTree) (M : Messages) (k size rank lower_off : ℕ) (w : List ℕ) → IsCampaign t → IsFilled t M → suc size + suc k ≤ t.bound + 1 → slice_get (labels t.generals t.commander t.general (suc size)) rank ≡ Some w → lower_off ≡ length (others t.general w)
    → ((i j : ℕ) → slice_get (labels t.generals t.commander t.general (suc (suc size))) (rank * (t.generals - 1 - suc size) + i) ≡ Some (w ++ j ∷ []) → child_lower_off lower_off i ≡ length (others t.general (w ++ j ∷ [])) → decided f t k (suc (suc size)) (rank * (t.generals - 1 - suc size) + i) (child_lower_off lower_off i) ≡ om f t.generals M k (w ++ j ∷ []) t.general)
    → decided f t (suc k) (suc size) rank lower_off ≡ om f t.generals M (suc k) w t.general
unfolding decided
step f t M k size rank lower_off w is full short at e ih =
    let n = t.generals in
    let p = t.general in
    let without : on w t.general ≡ false = (proved_labels_are_exact.only t.generals t.commander t.general (suc size) rank w is.commander is.general is.lieutenant at).1 in
    let width : t.generals - 1 - suc size ≡ t.generals - 2 - size = omega arith in
    let many : length (others t.generals (t.general ∷ w)) ≡ t.generals - 1 - suc size = wide t.generals t.commander t.general size rank w is.commander is.general is.lieutenant at in
    let own : order_at_rank t (suc size) rank ≡ taken M w t.general = order-told t M (suc size) rank w full (omega arith) (omega arith) at in
    let below : map (λ i. decided f t k (suc (suc size)) (rank * (t.generals - 1 - suc size) + i) (child_lower_off lower_off i)) (range_with_len 0 (t.generals - 1 - suc size)) ≡ map (λ j. om f t.generals M k (w ++ j ∷ []) t.general) (others t.generals (t.general ∷ w)) =
    ap (λ (l : ℕ). map (λ i. decided f t k (suc (suc size)) (rank * (t.generals - 1 - suc size) + i) (child_lower_off lower_off i)) (range_with_len 0 l)) (sym many)
    ∙ by_place (λ i. decided f t k (suc (suc size)) (rank * (t.generals - 1 - suc size) + i) (child_lower_off lower_off i)) (λ j. om f t.generals M k (w ++ j ∷ []) t.general) 0 (others t.generals (t.general ∷ w))
    (λ i j h.
    let zero_add : 0 + i ≡ i = omega arith in
    let stands : slice_get (labels t.generals t.commander t.general (suc (suc size))) (rank * (t.generals - 1 - suc size) + i) ≡ Some (w ++ j ∷ []) = rw width (children_stand t.generals t.commander t.general size rank i j w is.commander is.general is.lieutenant at h) in
    rw zero_add (ih i j stands (child-below t.generals t.general w i j lower_off is.general without h (stands_off t.generals t.general w i j h) e)))
    in
    ap f (ap (λ xs. insert xs lower_off (order_at_rank t (suc size) rank)) below
    ∙ (ap (λ (l : ℕ). insert (map (λ j. om f t.generals M k (w ++ j ∷ []) t.general) (others t.generals (t.general ∷ w))) l (order_at_rank t (suc size) rank)) e
    ∙ ap (insert (map (λ j. om f t.generals M k (w ++ j ∷ []) t.general) (others t.generals (t.general ∷ w))) (length (others t.general w))) own))
    ∙ sym (om-level f t.generals M k w t.general is.general without)
  where
    stands_off : (n p : ℕ) (w : List ℕ) (i j : ℕ) → slice_get (others n (p ∷ w)) i ≡ Some j → on (p ∷ w) j ≡ false
    stands_off n p w i j h = (others-on n (p ∷ w) j (on-get (others n (p ∷ w)) i j h)).1

-- Proves that the recursion over ranks gives the same as the recursion over labels.
pub decided-om : (f : List ℕ → ℕ) (t : LieutenantTree) (M : Messages) → IsCampaign t → IsFilled t M → (k size rank lower_off : ℕ) (w : List ℕ) → suc size + k ≤ t.bound + 1 → slice_get (labels t.generals t.commander t.general (suc size)) rank ≡ Some w → lower_off ≡ length (others t.general w) → decided f t k (suc size) rank lower_off ≡ om f t.generals M k w t.general
unfolding decided om
decided-om f t M is full zero size rank lower_off w short at e = order-told t M (suc size) rank w full (omega arith) (omega arith) at
decided-om f t M is full (suc k) size rank lower_off w short at e =
    step f t M k size rank lower_off w is full short at e (λ i j stands here. decided-om f t M is full k (suc size) (rank * (t.generals - 1 - suc size) + i) (child_lower_off lower_off i) (w ++ j ∷ []) (omega arith) stands here)

-- Proves how many lower generals are not on the label of only the commander.
pub first-place : (c p lower_off : ℕ) → (c < p → lower_off ≡ p - 1) → (p ≤ c → lower_off ≡ p) → lower_off ≡ length (others p (c ∷ []))
first-place c p lower_off below behind =
    elim (cases_lt c p) [
      | inl less ↦
          let count : length (others p (c ∷ [])) + 1 ≡ p = others-count p (c ∷ []) refl (less, tt) in
          let e : lower_off ≡ p - 1 = below less in
          omega arith
      | inr more ↦ behind more ∙ sym (absent p [] c more ∙ (ap length (none_out (range_with_len 0 p)) ∙ length-range_with_len 0 p))
    ]
  where
    none_out : (xs : List ℕ) → filter (λ j. not (on [] j)) xs ≡ xs
    none_out [] = refl
    none_out (x ∷ xs) = ap (λ ys. x ∷ ys) (none_out xs)

-- Proves the claim for the whole tree.
pub resolved : (f : List ℕ → ℕ) (t : LieutenantTree) (M : Messages) (lower_off : ℕ) → IsCampaign t → lower_off ≡ length (others t.general (t.commander ∷ [])) → IsFilled t M → decided f t t.bound 1 0 lower_off ≡ om f t.generals M t.bound (t.commander ∷ []) t.general
resolved f t M lower_off is e full =
    let first : slice_get (labels t.generals t.commander t.general 1) 0 ≡ Some (t.commander ∷ []) = ap (λ ls. slice_get ls 0) (first_label t.generals t.commander t.general is.lieutenant) in
    decided-om f t M is full t.bound 0 0 lower_off (t.commander ∷ []) (omega arith) first e

-- Proves that the label of only the commander has a rank.
pub first-there : (t : LieutenantTree) → IsCampaign t → 0 < length (labels t.generals t.commander t.general 1)
first-there t is = rw (first_label t.generals t.commander t.general is.lieutenant) (omega arith)
