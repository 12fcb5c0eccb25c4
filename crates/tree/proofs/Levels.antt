-- Lemmas about the levels of a tree, index by index.
use Rattle.std.proofs.Common.{ℕ, zero, suc, ◌+◌, ◌-◌, ◌<◌, ◌≤◌, ◌≡◌, List, [], ◌∷◌, ◌++◌, map, length, get_or, replicate, refl, sym, ap, ◌∙◌, arith, Some, None, Option, add-one}
use Rattle.std.specs.Prelude.{slice_get, unwrap_or, option_map}
use Rattle.std.proofs.lemmas.List.{length-map}
use Rattle.std.proofs.lemmas.Option.{slice_get-map}
use Rattle.label.specs.Labels.{labels}
use Rattle.label.specs.Oral.{Messages, order_of}
use Rattle.label.specs.Space.{labels_of, IsSpace}
use Rattle.label.specs.declared.space.Space.{Space}
use Rattle.tree.specs.LieutenantTree.{level_told, levels_from, IsFilled, silence}
use Rattle.tree.specs.Fields.{kept, IsFilledBySome}

-- Two elements that are found at the same index are equal.
pub same_some : {A : Type 0} {o : Option A} {a b : A} → o ≡ Some a → o ≡ Some b → a ≡ b
same_some e f = cc

pub levels-long : (n c p : ℕ) (M : Messages) (k l : ℕ) → length (levels_from n c p M k l) ≡ l
unfolding levels_from
levels-long n c p M k zero = refl
levels-long n c p M k (suc l) = ap suc (levels-long n c p M (suc k) l)

pub levels-at : (n c p : ℕ) (M : Messages) (k l i : ℕ) → i < l → slice_get (levels_from n c p M k l) i ≡ Some (level_told n c p M (k + i))
unfolding levels_from
levels-at n c p M k zero i s = absurd (omega arith)
levels-at n c p M k (suc l) zero s = let e : k ≡ k + 0 = omega arith in ap (λ (j : ℕ). Some (level_told n c p M j)) e
levels-at n c p M k (suc l) (suc i) s = let e : suc k + i ≡ k + suc i = omega arith in levels-at n c p M (suc k) l i (omega arith) ∙ ap (λ (j : ℕ). Some (level_told n c p M j)) e

pub levels-more : (n c p : ℕ) (M : Messages) (k l : ℕ) → levels_from n c p M k (suc l) ≡ levels_from n c p M k l ++ level_told n c p M (k + l) ∷ []
unfolding levels_from
levels-more n c p M k zero = let e : k ≡ k + 0 = omega arith in ap (λ (j : ℕ). level_told n c p M j ∷ []) e
levels-more n c p M k (suc l) = let e : suc k + l ≡ k + suc l = omega arith in ap (λ ls. level_told n c p M k ∷ ls) (levels-more n c p M (suc k) l ∙ ap (λ (j : ℕ). levels_from n c p M (suc k) l ++ level_told n c p M j ∷ []) e)

pub told-silence : (p : ℕ) (ws : List (List ℕ)) → map (λ w. silence w p) ws ≡ replicate (length ws) None
told-silence p [] = refl
told-silence p (w ∷ ws) = ap (λ vs. None ∷ vs) (told-silence p ws)

-- A row of the fields is a level of the tree.
pub row-at : (ls : List (List (Option ℕ))) (i : ℕ) (row : List (Option ℕ)) → i < length ls → row ≡ get_or ls i row → slice_get ls i ≡ Some row
row-at [] i row s e = absurd (omega arith)
row-at (x ∷ ls) zero row s e = ap Some (sym e)
row-at (x ∷ ls) (suc i) row s e = row-at ls i row (omega arith) e

pub levels-there : {s : Space} {m : ℕ} {ls : List (List (Option ℕ))} → IsFilledBySome s m ls → length ls ≡ m + 1
levels-there {s} {m} {ls} w = ap length w.filled ∙ levels-long s.generals s.commander s.general w.M 1 (m + 1)

-- The level for a length has the orders that were received.
pub row-told : (s : Space) (m : ℕ) (ls : List (List (Option ℕ))) (M : Messages) (k : ℕ) (row : List (Option ℕ)) → IsFilledBySome s m ls → IsFilled (kept s m ls) M → 0 < k → k ≤ m + 1 → row ≡ get_or ls (k - 1) row → row ≡ level_told s.generals s.commander s.general M k
row-told s m ls M k row w f some short e =
    let there : length ls ≡ m + 1 = levels-there w in
    let here : slice_get ls (k - 1) ≡ Some row = row-at ls (k - 1) row (omega arith) e in
    let told : slice_get (levels_from s.generals s.commander s.general M 1 (m + 1)) (k - 1) ≡ Some (level_told s.generals s.commander s.general M (1 + (k - 1))) = levels-at s.generals s.commander s.general M 1 (m + 1) (k - 1) (omega arith) in
    let size : 1 + (k - 1) ≡ k = omega arith in
    same_some here (ap (λ xs. slice_get xs (k - 1)) f ∙ told) ∙ ap (λ (j : ℕ). level_told s.generals s.commander s.general M j) size

pub row-value : (s : Space) (m : ℕ) (ls : List (List (Option ℕ))) (k : ℕ) (row : List (Option ℕ)) → IsFilledBySome s m ls → 0 < k → k ≤ m + 1 → row ≡ get_or ls (k - 1) row → row ≡ unwrap_or (slice_get ls (k - 1)) []
row-value s m ls k row w some short e =
    let there : length ls ≡ m + 1 = levels-there w in
    sym (ap (λ o. unwrap_or o []) (row-at ls (k - 1) row (omega arith) e))

pub row-long : (s : Space) (m : ℕ) (ls : List (List (Option ℕ))) (k : ℕ) (row : List (Option ℕ)) → IsFilledBySome s m ls → 0 < k → k ≤ m + 1 → row ≡ get_or ls (k - 1) row → length row ≡ length (labels_of s k)
row-long s m ls k row w some short e = ap length (row-told s m ls w.M k row w w.filled some short e) ∙ length-map (labels_of s k) (λ u. w.M u s.general)

-- The orders of a level.
pub row-orders : (s : Space) (m : ℕ) (ls : List (List (Option ℕ))) (M : Messages) (k : ℕ) (row : List (Option ℕ)) (orders : List ℕ) → IsFilledBySome s m ls → IsFilled (kept s m ls) M → 0 < k → k ≤ m + 1 → row ≡ get_or ls (k - 1) row → orders ≡ map order_of row → orders ≡ map order_of (level_told s.generals s.commander s.general M k)
row-orders s m ls M k row orders w f some short e eo = eo ∙ ap (map order_of) (row-told s m ls M k row w f some short e)

pub row-order-value : (s : Space) (m : ℕ) (ls : List (List (Option ℕ))) (k : ℕ) (row : List (Option ℕ)) (orders : List ℕ) → IsFilledBySome s m ls → 0 < k → k ≤ m + 1 → row ≡ get_or ls (k - 1) row → orders ≡ map order_of row → orders ≡ map order_of (unwrap_or (slice_get ls (k - 1)) [])
row-order-value s m ls k row orders w some short e eo = eo ∙ ap (map order_of) (row-value s m ls k row w some short e)

pub row-orders-long : (s : Space) (m : ℕ) (ls : List (List (Option ℕ))) (k : ℕ) (row : List (Option ℕ)) (orders : List ℕ) → IsFilledBySome s m ls → 0 < k → k ≤ m + 1 → row ≡ get_or ls (k - 1) row → orders ≡ map order_of row → length orders ≡ length (labels_of s k)
row-orders-long s m ls k row orders w some short e eo = ap length eo ∙ (length-map row order_of ∙ row-long s m ls k row w some short e)

-- The order at the rank of a label is the one that was received for it.
pub told-at : (n c p k r : ℕ) (M : Messages) (w : List ℕ) (vs : List (Option ℕ)) → vs ≡ level_told n c p M k → slice_get (labels n c p k) r ≡ Some w → slice_get vs r ≡ Some (M w p)
told-at n c p k r M w vs e at = ap (λ xs. slice_get xs r) e ∙ (slice_get-map (λ u. M u p) (labels n c p k) r ∙ ap (option_map (λ u. M u p)) at)

pub levels-none : (n c p : ℕ) (M : Messages) (ls : List (List (Option ℕ))) → ls ≡ [] → ls ≡ levels_from n c p M 1 0
unfolding levels_from
levels-none n c p M ls e = e

-- Adding one more level for which nothing was received.
pub one-more : (n c p : ℕ) (ls longer : List (List (Option ℕ))) (l count : ℕ) (row : List (Option ℕ)) → ls ≡ levels_from n c p silence 1 l → longer ≡ ls ++ row ∷ [] → row ≡ replicate count None → count ≡ length (labels n c p (l + 1))
    → longer ≡ levels_from n c p silence 1 (l + 1)
one-more n c p ls longer l count row e el er ec =
    let size : 1 + l ≡ l + 1 = omega arith in
    let level : row ≡ level_told n c p silence (1 + l) = er ∙ (ap (λ (k : ℕ). replicate k None) ec ∙ (sym (told-silence p (labels n c p (l + 1))) ∙ ap (λ (k : ℕ). level_told n c p silence k) (sym size))) in
    rw (el, e, level, add-one) (sym (levels-more n c p silence 1 l))

pub whole-silent : (s : Space) (m k : ℕ) (ls : List (List (Option ℕ))) → IsSpace s → m < 13 → k ≡ m + 1 → ls ≡ levels_from s.generals s.commander s.general silence 1 k → IsFilledBySome s m ls
whole-silent s m k ls i l ek e = record { space = i; small = l; M = silence; filled = rw (← ek) e }
