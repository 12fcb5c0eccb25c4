-- Lemmas about the labels of the tree: a label that has a rank has an entry at this rank.
use Rattle.std.proofs.Common.{ℕ, ◌+◌, ◌-◌, ◌<◌, ◌≤◌, ◌≡◌, List, [], length, get_or, sym, ap, ◌∙◌, arith, Some, Option}
use Rattle.std.specs.Prelude.{slice_get}
use Rattle.std.proofs.lemmas.Option.{slice_get_within, slice_get-get_or}
use Rattle.std.proofs.Math.ListN.{set}
use Rattle.label.specs.Space.{IsSpace, HasRank, labels_of}
use Rattle.label.specs.declared.space.Space.{Space}
use Rattle.label.specs.Oral.{Messages}
use Rattle.label.proofs.Same.{label_stands}
use Rattle.label.proofs.Listing.{proved_labels_are_exact, proved_labels_differ}
use Rattle.tree.specs.LieutenantTree.{IsPlace, IsFilled, level_told, told_also}
use Rattle.tree.specs.Fields.{kept, IsFilledBySome}
use Rattle.tree.proofs.Also.{levels-set, levels-away}
use Rattle.tree.proofs.Levels.{row-told, row-long, same_some, told-at}

pub placed : (s : Space) (m : ℕ) (ls : List (List (Option ℕ))) (w : List ℕ) (r : ℕ) → IsSpace s → length w ≤ m + 1 → HasRank s w r → IsPlace (kept s m ls) w
placed s m ls w r is short e =
    let one = proved_labels_are_exact.only s.generals s.commander s.general (length w) r w is.commander is.general is.lieutenant e in
    record { label = one.0; without = one.1; short = short }

pub ranked : (s : Space) (m : ℕ) (ls : List (List (Option ℕ))) (w : List ℕ) → IsSpace s → IsPlace (kept s m ls) w → ((r : ℕ) → HasRank s w r → ⊥) → ⊥
ranked s m ls w is p away =
    let at = label_stands s.generals s.commander s.general w is.commander is.general is.lieutenant p.label p.without in
    away at.0 at.1

-- The rank is an index of the level.
pub row-within : (s : Space) (m : ℕ) (ls : List (List (Option ℕ))) (w : List ℕ) (k r : ℕ) (row : List (Option ℕ)) → IsFilledBySome s m ls → k ≡ length w → 0 < k → k ≤ m + 1 → row ≡ get_or ls (k - 1) row → HasRank s w r → r < length row
row-within s m ls w k r row i e some short er at =
    let within : r < length (labels_of s (length w)) = slice_get_within (labels_of s (length w)) r w at in
    let within' : r < length (labels_of s k) = rw e within in
    let long : length row ≡ length (labels_of s k) = row-long s m ls k row i some short er in
    omega arith

-- The entry at the rank is the order that was received.
pub row-read : (s : Space) (m : ℕ) (ls : List (List (Option ℕ))) (M : Messages) (w : List ℕ) (k r : ℕ) (row : List (Option ℕ)) (v : Option ℕ) → IsFilledBySome s m ls → IsFilled (kept s m ls) M → k ≡ length w → 0 < k → k ≤ m + 1 → row ≡ get_or ls (k - 1) row → HasRank s w r → slice_get row r ≡ Some v → v ≡ M w s.general
row-read s m ls M w k r row v i f e some short er at read =
    same_some read (told-at s.generals s.commander s.general k r M w row (row-told s m ls M k row i f some short er) (rw e at))

-- A label is only in the level for its length.
only-long : (s : Space) → IsSpace s → (w : List ℕ) (k j q : ℕ) → k ≡ length w → slice_get (labels_of s j) q ≡ Some w → j ≡ k
only-long s is w k j q e at =
    let one = proved_labels_are_exact.only s.generals s.commander s.general j q w is.commander is.general is.lieutenant at in
    sym one.2 ∙ sym e

-- The order is stored at the rank of the label.
pub row-filled : (s : Space) (m : ℕ) (ls : List (List (Option ℕ))) (M : Messages) (w : List ℕ) (k r : ℕ) (row new : List (Option ℕ)) (v : Option ℕ) → IsFilledBySome s m ls → IsFilled (kept s m ls) M → 0 < k → k ≤ m + 1 → row ≡ get_or ls (k - 1) row → new ≡ set row r v → slice_get (labels_of s k) r ≡ Some w
    → IsFilled (kept s m (set ls (k - 1) new)) (told_also M w v)
row-filled s m ls M w k r row new v i f some short er en at =
    let n = s.generals in
    let size : 1 + (k - 1) ≡ k = omega arith in
    let here : k ≡ length w = sym (proved_labels_are_exact.only s.generals s.commander s.general k r w i.space.commander i.space.general i.space.lieutenant at).2 in
    let told : row ≡ level_told s.generals s.commander s.general M k = row-told s m ls M k row i f some short er in
    ap (set ls (k - 1)) (en ∙ ap (λ ys. set ys r v) (told ∙ ap (λ (j : ℕ). level_told s.generals s.commander s.general M j) (sym size)))
    ∙ (ap (λ ys. set ys (k - 1) (set (level_told s.generals s.commander s.general M (1 + (k - 1))) r v)) f
    ∙ sym (levels-set s.generals s.commander s.general M w v r 1 (m + 1) (k - 1) (omega arith) (rw size at)
    (rw size (λ j e. proved_labels_differ s.generals s.commander s.general k j r w i.space.commander i.space.general i.space.lieutenant e at))
    (rw size (λ j q e. only-long s i.space w k j q here e))))

-- Storing an order for a label without an entry changes nothing.
pub none-filled : (s : Space) (m : ℕ) (ls : List (List (Option ℕ))) (M : Messages) (w : List ℕ) (v : Option ℕ) → IsFilledBySome s m ls → IsFilled (kept s m ls) M → ((r : ℕ) → length w ≤ m + 1 → HasRank s w r → ⊥) → IsFilled (kept s m ls) (told_also M w v)
none-filled s m ls M w v i f away =
    f ∙ sym (levels-away s.generals s.commander s.general M w v 1 (m + 1) (λ j q low high e.
    let long : length w ≡ j = (proved_labels_are_exact.only s.generals s.commander s.general j q w i.space.commander i.space.general i.space.lieutenant e).2 in
    away q (omega arith) (rw long e)))

-- The tree with the changed entry has the orders of a message function.
pub row-whole : (s : Space) (m : ℕ) (ls : List (List (Option ℕ))) (k r : ℕ) (row new : List (Option ℕ)) (v : Option ℕ) → IsFilledBySome s m ls → 0 < k → k ≤ m + 1 → row ≡ get_or ls (k - 1) row → new ≡ set row r v → r < length (labels_of s k) → IsFilledBySome s m (set ls (k - 1) new)
row-whole s m ls k r row new v i some short er en l =
    record {
      space = i.space;
      small = i.small;
      M = told_also i.M (get_or (labels_of s k) r []) v;
      filled = row-filled s m ls i.M (get_or (labels_of s k) r []) k r row new v i i.filled some short er en (slice_get-get_or (labels_of s k) r [] l);
    }
