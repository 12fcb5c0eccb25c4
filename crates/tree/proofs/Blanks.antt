-- Lemmas about clearing a level, so that nothing is received for its labels.
use Rattle.std.proofs.Common.{ℕ, zero, suc, ◌+◌, ◌-◌, ◌<◌, ◌≤◌, ◌≡◌, List, [], ◌∷◌, map, length, replicate, refl, sym, ap, subst, ◌∙◌, arith, Some, None, Option}
use Rattle.std.proofs.Math.ListN.{set}
use Rattle.std.specs.Prelude.{slice_get, get_or}
use Rattle.std.proofs.lemmas.Bool.{eq-eqb, ne_eqb}
use Rattle.label.specs.Labels.{labels}
use Rattle.label.specs.Oral.{Messages}
use Rattle.label.specs.Space.{IsSpace, labels_of}
use Rattle.label.specs.declared.space.Space.{Space}
use Rattle.label.proofs.Listing.{proved_labels_are_exact}
use Rattle.tree.specs.LieutenantTree.{IsFilled, levels_from, blank}
use Rattle.tree.specs.Fields.{kept, IsFilledBySome}
use Rattle.tree.proofs.Levels.{row-long}

-- The labels of a level have the length of this level.
abbrev AreLong : ℕ → ℕ → ℕ → Type 0
AreLong n c p = (j i : ℕ) (w : List ℕ) → slice_get (labels n c p j) i ≡ Some w → length w ≡ j

pub blank-here : (M : Messages) (k : ℕ) (w : List ℕ) (p : ℕ) → length w ≡ k → blank M k w p ≡ None
unfolding blank
blank-here M k w p e = rw (eq-eqb (length w) k e) refl

pub blank-other : (M : Messages) (k : ℕ) (w : List ℕ) (p : ℕ) → (length w ≡ k → ⊥) → blank M k w p ≡ M w p
unfolding blank
blank-other M k w p ne = rw (ne_eqb (length w) k ne) refl

all-blank : (M : Messages) (k p : ℕ) (ws : List (List ℕ)) → ((i : ℕ) (w : List ℕ) → slice_get ws i ≡ Some w → length w ≡ k) → map (λ w. blank M k w p) ws ≡ replicate (length ws) None
all-blank M k p [] long = refl
all-blank M k p (w ∷ ws) long = (λ i. blank-here M k w p (long 0 w refl) i ∷ all-blank M k p ws (λ j u e. long (suc j) u e) i)

none-blank : (M : Messages) (k p : ℕ) (ws : List (List ℕ)) → ((i : ℕ) (w : List ℕ) → slice_get ws i ≡ Some w → length w ≡ k → ⊥) → map (λ w. blank M k w p) ws ≡ map (λ w. M w p) ws
none-blank M k p [] long = refl
none-blank M k p (w ∷ ws) long = (λ i. blank-other M k w p (long 0 w refl) i ∷ none-blank M k p ws (λ j u e. long (suc j) u e) i)

-- Levels for other lengths are unchanged.
levels-kept : (n c p : ℕ) (M : Messages) (k j l : ℕ) → AreLong n c p → ((q : ℕ) → j ≤ q → q < j + l → q ≡ k → ⊥) → levels_from n c p (blank M k) j l ≡ levels_from n c p M j l
unfolding levels_from
levels-kept n c p M k j zero long away = refl
levels-kept n c p M k j (suc l) long away =
    (λ i. none-blank M k p (labels n c p j) (λ q w at e. away j (omega arith) (omega arith) (sym (long j q w at) ∙ e)) i ∷ levels-kept n c p M k (suc j) l long (λ q low high. away q (omega arith) (omega arith)) i)

-- Only the level for this length is cleared.
levels-blank : (n c p : ℕ) (M : Messages) (k l i j : ℕ) → AreLong n c p → i < l → k + i ≡ j → levels_from n c p (blank M j) k l ≡ set (levels_from n c p M k l) i (replicate (length (labels n c p j)) None)
unfolding levels_from
levels-blank n c p M k zero i j long less e = absurd (omega arith)
levels-blank n c p M k (suc l) zero j long less e =
    let same : k ≡ j = omega arith in
    subst (λ (q : ℕ). levels_from n c p (blank M q) k (suc l) ≡ set (levels_from n c p M k (suc l)) 0 (replicate (length (labels n c p q)) None)) same
    (λ i. all-blank M k p (labels n c p k) (λ q w at. long k q w at) i ∷ levels-kept n c p M k (suc k) l long (λ q low high e. absurd (omega arith)) i)
levels-blank n c p M k (suc l) (suc i) j long less e =
    (λ q. none-blank M j p (labels n c p k) (λ r w at same. let h = long k r w at in absurd (omega arith)) q ∷ levels-blank n c p M (suc k) l i j long (omega arith) (omega arith) q)

long-labels : (s : Space) → IsSpace s → AreLong s.generals s.commander s.general
long-labels s is j q w at = (proved_labels_are_exact.only s.generals s.commander s.general j q w is.commander is.general is.lieutenant at).2

-- If the tree has no level for this length, nothing changes.
pub away-blank : (s : Space) (m : ℕ) (ls : List (List (Option ℕ))) (M : Messages) (k : ℕ) → IsFilledBySome s m ls → IsFilled (kept s m ls) M → ((q : ℕ) → 1 ≤ q → q < m + 2 → q ≡ k → ⊥) → IsFilled (kept s m ls) (blank M k)
away-blank s m ls M k i f away = f ∙ sym (levels-kept s.generals s.commander s.general M k 1 (m + 1) (long-labels s i.space) (λ q low high. away q low (omega arith)))

-- The level for this length is cleared by writing over it.
pub row-blank : (s : Space) (m : ℕ) (ls : List (List (Option ℕ))) (M : Messages) (k : ℕ) (row new : List (Option ℕ)) → IsFilledBySome s m ls → IsFilled (kept s m ls) M → 0 < k → k ≤ m + 1 → row ≡ get_or ls (k - 1) row → new ≡ replicate (length row) None
    → IsFilled (kept s m (set ls (k - 1) new)) (blank M k)
row-blank s m ls M k row new i f some short er en =
    ap (set ls (k - 1)) (en ∙ ap (λ (j : ℕ). replicate j None) (row-long s m ls k row i some short er))
    ∙ (ap (λ ys. set ys (k - 1) (replicate (length (labels_of s k)) None)) f
    ∙ sym (levels-blank s.generals s.commander s.general M 1 (m + 1) (k - 1) k (long-labels s i.space) (omega arith) (omega arith)))

-- The tree with the cleared level has the orders of a message function.
pub whole-blank : (s : Space) (m : ℕ) (ls : List (List (Option ℕ))) (k : ℕ) (row new : List (Option ℕ)) → IsFilledBySome s m ls → 0 < k → k ≤ m + 1 → row ≡ get_or ls (k - 1) row → new ≡ replicate (length row) None → IsFilledBySome s m (set ls (k - 1) new)
whole-blank s m ls k row new i some short er en = record { space = i.space; small = i.small; M = blank i.M k; filled = row-blank s m ls i.M k row new i i.filled some short er en }
