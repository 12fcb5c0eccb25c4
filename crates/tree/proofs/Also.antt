-- Lemmas about receiving one more order: only the entry of its label changes.
use Rattle.std.proofs.Common.{ℕ, zero, suc, ◌+◌, ◌<◌, ◌≤◌, ◌≡◌, List, [], ◌∷◌, map, refl, ap, ◌∙◌, arith, Some, Option}
use Rattle.std.proofs.Math.ListN.{set}
use Rattle.std.specs.Prelude.{slice_get, bytes_eq}
use Rattle.std.proofs.lemmas.Bool.{cond-true, cond-false, false_from_ne_true}
use Rattle.std.proofs.lemmas.Slice.Eq.{bytes_eq-Decides}
use Rattle.label.specs.Labels.{labels}
use Rattle.label.specs.Oral.{Messages}
use Rattle.tree.specs.LieutenantTree.{level_told, levels_from, told_also}

pub also-here : (M : Messages) (w : List ℕ) (v : Option ℕ) (p : ℕ) → told_also M w v w p ≡ v
unfolding told_also
also-here M w v p = cond-true (bytes_eq w w) v (M w p) ((bytes_eq-Decides w w).1 refl)

pub also-other : (M : Messages) (w : List ℕ) (v : Option ℕ) (u : List ℕ) (p : ℕ) → (u ≡ w → ⊥) → told_also M w v u p ≡ M u p
unfolding told_also
also-other M w v u p ne = cond-false (bytes_eq u w) v (M u p) (false_from_ne_true (bytes_eq u w) (λ t. ne ((bytes_eq-Decides u w).0 t)))

-- A list without the label is unchanged.
pub also-absent : (M : Messages) (w : List ℕ) (v : Option ℕ) (p : ℕ) (ws : List (List ℕ)) → ((i : ℕ) → slice_get ws i ≡ Some w → ⊥) → map (λ u. told_also M w v u p) ws ≡ map (λ u. M u p) ws
also-absent M w v p [] away = refl
also-absent M w v p (u ∷ ws) away =
    rw (also-other M w v u p (λ e. away 0 (ap Some e)), also-absent M w v p ws (λ i e. away (suc i) e)) refl

-- A list that has the label once changes only at its index.
pub also-once : (M : Messages) (w : List ℕ) (v : Option ℕ) (p : ℕ) (ws : List (List ℕ)) (r : ℕ) → slice_get ws r ≡ Some w → ((i : ℕ) → slice_get ws i ≡ Some w → i ≡ r) → map (λ u. told_also M w v u p) ws ≡ set (map (λ u. M u p) ws) r v
also-once M w v p [] r at only = cc
also-once M w v p (u ∷ ws) zero at only =
    let here : u ≡ w = cc in
    let first : told_also M w v u p ≡ v = ap (λ (x : List ℕ). told_also M w v x p) here ∙ also-here M w v p in
    rw (first, also-absent M w v p ws (λ i e. further i (only (suc i) e))) refl
  where
    further : (i : ℕ) → suc i ≡ 0 → ⊥
    further i z = omega arith
also-once M w v p (u ∷ ws) (suc r) at only =
    rw (also-other M w v u p (λ e. further (only 0 (ap Some e))), also-once M w v p ws r at (λ i e. nearer i (only (suc i) e))) refl
  where
    further : 0 ≡ suc r → ⊥
    further z = omega arith

    nearer : (i : ℕ) → suc i ≡ suc r → i ≡ r
    nearer i z = omega arith

-- Levels without the label are unchanged.
pub levels-away : (n c p : ℕ) (M : Messages) (w : List ℕ) (v : Option ℕ) (k l : ℕ) → ((j i : ℕ) → k ≤ j → j < k + l → slice_get (labels n c p j) i ≡ Some w → ⊥) → levels_from n c p (told_also M w v) k l ≡ levels_from n c p M k l
unfolding levels_from
levels-away n c p M w v k zero away = refl
levels-away n c p M w v k (suc l) away =
    rw (also-absent M w v p (labels n c p k) (λ i e. away k i (omega arith) (omega arith) e), levels-away n c p M w v (suc k) l (λ j i low high e. away j i (omega arith) (omega arith) e)) refl

-- Levels for longer labels are unchanged.
pub levels-stay : (n c p : ℕ) (M : Messages) (w : List ℕ) (v : Option ℕ) (k l : ℕ) → ((j i : ℕ) → slice_get (labels n c p j) i ≡ Some w → j < k) → levels_from n c p (told_also M w v) k l ≡ levels_from n c p M k l
levels-stay n c p M w v k l below = levels-away n c p M w v k l (λ j i low high e. let h : j < k = below j i e in omega arith)

-- The level for labels of the same length changes at the rank of the label.
pub levels-set : (n c p : ℕ) (M : Messages) (w : List ℕ) (v : Option ℕ) (r : ℕ) (k l i : ℕ) → i < l → slice_get (labels n c p (k + i)) r ≡ Some w → ((j : ℕ) → slice_get (labels n c p (k + i)) j ≡ Some w → j ≡ r) → ((j q : ℕ) → slice_get (labels n c p j) q ≡ Some w → j ≡ k + i)
    → levels_from n c p (told_also M w v) k l ≡ set (levels_from n c p M k l) i (set (level_told n c p M (k + i)) r v)
unfolding levels_from
levels-set n c p M w v r k zero i s at only long = absurd (omega arith)
levels-set n c p M w v r k (suc l) zero s at only long =
    let e : k + 0 ≡ k = omega arith in
    rw (levels-stay n c p M w v (suc k) l (λ j q h. let z : j ≡ k + 0 = long j q h in omega arith), also-once M w v p (labels n c p k) r (rw e at at) (rw e at only), e) refl
levels-set n c p M w v r k (suc l) (suc i) s at only long =
    let e : k + suc i ≡ suc k + i = omega arith in
    rw (also-absent M w v p (labels n c p k) (λ q h. let z : k ≡ k + suc i = long k q h in omega arith), levels-set n c p M w v r (suc k) l i (omega arith) (rw e at at) (rw e at only) (rw e at long), e) refl
