-- The trees of all lieutenants are changed, one after another.
use Rattle.std.proofs.Common.{◌≡◌, ◌≢◌, ℕ, zero, suc, ◌+◌, ◌<◌, ◌≤◌, List, [], ◌∷◌, length, get_or, set, true, false, refl, sym, ap, ◌∙◌, Some, arith, ⊎_elim}
use Rattle.std.specs.Prelude.{slice_get, ◌==◌}
use Rattle.std.proofs.lemmas.Bool.Decides.{eqb_tells}
use Rattle.std.proofs.lemmas.Option.{slice_get_read, slice_get_within}
use Rattle.label.specs.Oral.{Messages}
use Rattle.tree.specs.LieutenantTree.{LieutenantTree, IsFilled, SameCampaign}
use Rattle.round.specs.Delivery.{AreEach}
use Rattle.round.proofs.Lists.{some_same, get_set, get_unset}

-- States that the first `i` trees are changed as required, and the others are as before.
pub record AreDone (Are : LieutenantTree → LieutenantTree → Type 0) (old : List LieutenantTree) (i : ℕ) (trees : List LieutenantTree) : Type 0 where
  pub count : length trees ≡ length old
  pub done : (j : ℕ) (t u : LieutenantTree) → j < i → slice_get old j ≡ Some t → slice_get trees j ≡ Some u → Are t u
  pub rest : (j : ℕ) → i ≤ j → slice_get trees j ≡ slice_get old j

set_length : (xs : List LieutenantTree) (i : ℕ) (x : LieutenantTree) → length (set xs i x) ≡ length xs
set_length [] i x = refl
set_length (y ∷ xs) zero x = refl
set_length (y ∷ xs) (suc i) x = ap suc (set_length xs i x)

-- One more tree is changed, or stays as it is.
pub done_next : (Are : LieutenantTree → LieutenantTree → Type 0) (old : List LieutenantTree) (i : ℕ) (trees : List LieutenantTree) (t u : LieutenantTree) → AreDone Are old i trees → i < length trees → t ≡ get_or trees i t → Are t u → AreDone Are old (i + 1) (set trees i u)
done_next Are old i trees t u h lt at is =
    let here : slice_get trees i ≡ Some t = slice_get_read trees (length trees) i t refl lt at in
    record {
      count = set_length trees i u ∙ h.count;
      done = λ j x y less was now. ⊎_elim
          (λ (q : (j == i ≡ true) × (j ≡ i)).
          let first : x ≡ t = some_same (sym was ∙ (ap (λ (k : ℕ). slice_get old k) q.1 ∙ (sym (h.rest i (omega arith)) ∙ here))) in
          let last : y ≡ u = some_same (sym now ∙ (ap (λ (k : ℕ). slice_get (set trees i u) k) q.1 ∙ get_set trees i u lt)) in
          rw (first, last) is)
          (λ (q : (j == i ≡ false) × (j ≢ i)).
          h.done j x y (let n = q.1 in omega arith) was (sym (get_unset trees i j u q.1) ∙ now))
          (eqb_tells j i);
      rest = λ j le. get_unset trees i j u (λ e. absurd (omega arith)) ∙ h.rest j (omega arith);
    }

pub done_same : (Are : LieutenantTree → LieutenantTree → Type 0) (old : List LieutenantTree) (i : ℕ) (trees : List LieutenantTree) (t : LieutenantTree) → AreDone Are old i trees → i < length trees → t ≡ get_or trees i t → Are t t → AreDone Are old (i + 1) trees
done_same Are old i trees t h lt at is =
    let here : slice_get trees i ≡ Some t = slice_get_read trees (length trees) i t refl lt at in
    record {
      count = h.count;
      done = λ j x y less was now. ⊎_elim
          (λ (q : (j == i ≡ true) × (j ≡ i)).
          let first : x ≡ t = some_same (sym was ∙ (ap (λ (k : ℕ). slice_get old k) q.1 ∙ (sym (h.rest i (omega arith)) ∙ here))) in
          let last : y ≡ t = some_same (sym now ∙ (ap (λ (k : ℕ). slice_get trees k) q.1 ∙ here)) in
          rw (first, last) is)
          (λ (q : (j == i ≡ false) × (j ≢ i)). h.done j x y (let n = q.1 in omega arith) was now)
          (eqb_tells j i);
      rest = λ j le. h.rest j (omega arith);
    }

-- All trees are changed.
pub done_all : (Are : LieutenantTree → LieutenantTree → Type 0) (old : List LieutenantTree) (i : ℕ) (trees : List LieutenantTree) → AreDone Are old i trees → length trees ≤ i → AreEach Are old trees
done_all Are old i trees h all = record { count = h.count; each = λ j t u was now. h.done j t u (let l = slice_get_within trees j u now in omega arith) was now }

-- A tree that is not changed yet.
pub not_done : (Are : LieutenantTree → LieutenantTree → Type 0) (old : List LieutenantTree) (i : ℕ) (trees : List LieutenantTree) (t : LieutenantTree) → AreDone Are old i trees → i < length trees → t ≡ get_or trees i t → slice_get old i ≡ Some t
not_done Are old i trees t h lt at = sym (h.rest i (omega arith)) ∙ slice_get_read trees (length trees) i t refl lt at

-- States that the messages of each of the first trees are changed by this function.
abbrev pub AreChangedTo : List LieutenantTree → (Messages → Messages) → ℕ → List LieutenantTree → Type 0
AreChangedTo old change i trees = AreDone (λ t u. SameCampaign t u × ((M : Messages) → IsFilled t M → IsFilled u (change M))) old i trees

pub changed_next : (old : List LieutenantTree) (change : Messages → Messages) (i : ℕ) (trees : List LieutenantTree) (t u : LieutenantTree) → AreChangedTo old change i trees → i < length trees → t ≡ get_or trees i t → SameCampaign t u → ((M : Messages) → IsFilled t M → IsFilled u (change M)) → AreChangedTo old change (i + 1) (set trees i u)
changed_next old change i trees t u h lt at same fill = done_next (λ t u. SameCampaign t u × ((M : Messages) → IsFilled t M → IsFilled u (change M))) old i trees t u h lt at (same, fill)
