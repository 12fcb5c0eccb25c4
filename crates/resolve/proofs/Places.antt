-- How many generals with a lower number than the lieutenant are not on the label with a given rank.
use Rattle.std.proofs.Common.{ℕ, zero, suc, ◌+◌, ◌-◌, ◌*◌, ◌/◌, ◌%◌, ◌<◌, ◌≤◌, ◌≡◌, false, List, [], ◌∷◌, ◌++◌, length, get_or, sym, ap, ◌∙◌, arith, Some}
use Rattle.std.specs.Prelude.{slice_get}
use Rattle.std.proofs.lemmas.Nat.{div-add-mod', div_below, mod_below}
use Rattle.std.proofs.lemmas.Option.{slice_get-get_or, slice_get_within, get_or_from_slice_get}
use Rattle.label.specs.Labels.{on, others, labels}
use Rattle.label.proofs.Counting.{others-on, others-length}
use Rattle.label.proofs.Counts.{on-get}
use Rattle.label.proofs.Below.{turned}
use Rattle.label.proofs.Parts.{wide}
use Rattle.label.proofs.Ranks.{others-at}
use Rattle.label.proofs.Listing.{proved_labels_are_exact}
use Rattle.label.proofs.Places.{first_label, children_stand, count_is_product}
use Rattle.tree.specs.LieutenantTree.{LieutenantTree, IsCampaign}
use Rattle.resolve.specs.Decided.{child_lower_off}
use Rattle.resolve.specs.Upward.{label_at, lower_off_at}
use Rattle.resolve.proofs.Below.{child-below}

-- Proves that the label with a rank has this index in the list.
stands : (t : LieutenantTree) (size rank : ℕ) → rank < length (labels t.generals t.commander t.general size) → slice_get (labels t.generals t.commander t.general size) rank ≡ Some (label_at t size rank)
stands t size rank l = slice_get-get_or (labels t.generals t.commander t.general size) rank [] l

-- Proves that the lieutenant is not on it.
pub lacking : (t : LieutenantTree) (k rank : ℕ) (w : List ℕ) → IsCampaign t → slice_get (labels t.generals t.commander t.general k) rank ≡ Some w → on w t.general ≡ false
lacking t k rank w is at = (proved_labels_are_exact.only t.generals t.commander t.general k rank w is.commander is.general is.lieutenant at).1

-- Proves that a general who extends a label is new to it.
off-child : (n p : ℕ) (w : List ℕ) (i j : ℕ) → slice_get (others n (p ∷ w)) i ≡ Some j → on (p ∷ w) j ≡ false
off-child n p w i j h = (others-on n (p ∷ w) j (on-get (others n (p ∷ w)) i j h)).1

-- Proves the claim for the label of only the commander.
pub place-one : (t : LieutenantTree) (size rank lower_off : ℕ) → IsCampaign t → size ≡ 1 → rank < length (labels t.generals t.commander t.general size) → lower_off ≡ length (others t.general (t.commander ∷ [])) → lower_off ≡ lower_off_at t size rank
unfolding lower_off_at
place-one t size rank lower_off is one l e =
    let first : labels t.generals t.commander t.general 1 ≡ (t.commander ∷ []) ∷ [] = first_label t.generals t.commander t.general is.lieutenant in
    let l1 : rank < length (labels t.generals t.commander t.general 1) = rw one at l in
    let l2 : rank < 1 = rw first at l1 in
    let z : rank ≡ 0 = omega arith in
    rw (one, z, first) e

-- States what a label has from the label without its last general.
pub record Grown (t : LieutenantTree) (size rank width : ℕ) : Type 0 where
  pub some : 0 < width
  pub parent : rank / width < length (labels t.generals t.commander t.general (size - 1))
  pub lower_off : (lower_off : ℕ) → lower_off ≡ lower_off_at t (size - 1) (rank / width) → child_lower_off lower_off (rank % width) ≡ lower_off_at t size rank

pub grown : (t : LieutenantTree) (size rank width : ℕ) → IsCampaign t → 1 < size → width ≡ t.generals - size → rank < length (labels t.generals t.commander t.general size) → Grown t size rank width
unfolding lower_off_at
grown t zero rank width is some ew l = absurd (omega arith)
grown t (suc zero) rank width is some ew l = absurd (omega arith)
grown t (suc (suc k)) rank width is some ew l =
    let n = t.generals in
    let w : t.generals - 2 - k ≡ width = omega arith in
    let count : length (labels t.generals t.commander t.general (suc (suc k))) ≡ length (labels t.generals t.commander t.general (suc k)) * width = count_is_product t.generals t.commander t.general k is.commander is.general is.lieutenant ∙ ap (λ (x : ℕ). length (labels t.generals t.commander t.general (suc k)) * x) w in
    let l' : rank < length (labels t.generals t.commander t.general (suc k)) * width = rw count at l in
    let positive : 0 < width = positive_of (length (labels t.generals t.commander t.general (suc k))) width rank l' in
    let less : suc (suc k) - 1 ≡ suc k = omega arith in
    let within : rank / width < length (labels t.generals t.commander t.general (suc k)) = div_below rank width (length (labels t.generals t.commander t.general (suc k))) positive l' in
    let at : slice_get (labels t.generals t.commander t.general (suc k)) (rank / width) ≡ Some (label_at t (suc k) (rank / width)) = stands t (suc k) (rank / width) within in
    let many : length (others t.generals (t.general ∷ label_at t (suc k) (rank / width))) ≡ t.generals - 1 - suc k = wide t.generals t.commander t.general k (rank / width) (label_at t (suc k) (rank / width)) is.commander is.general is.lieutenant at in
    let small : rank % width < width = mod_below rank width positive in
    let here : slice_get (others t.generals (t.general ∷ label_at t (suc k) (rank / width))) (rank % width) ≡ Some (get_or (others t.generals (t.general ∷ label_at t (suc k) (rank / width))) (rank % width) 0) = slice_get-get_or (others t.generals (t.general ∷ label_at t (suc k) (rank / width))) (rank % width) 0 (omega arith) in
    let whole : rank / width * width + rank % width ≡ rank = div-add-mod' rank width in
    let child : slice_get (labels t.generals t.commander t.general (suc (suc k))) rank ≡ Some (label_at t (suc k) (rank / width) ++ get_or (others t.generals (t.general ∷ label_at t (suc k) (rank / width))) (rank % width) 0 ∷ []) =
    rw (w, whole) at (children_stand t.generals t.commander t.general k (rank / width) (rank % width) (get_or (others t.generals (t.general ∷ label_at t (suc k) (rank / width))) (rank % width) 0) (label_at t (suc k) (rank / width)) is.commander is.general is.lieutenant at here)
    in
    let read : label_at t (suc (suc k)) rank ≡ label_at t (suc k) (rank / width) ++ get_or (others t.generals (t.general ∷ label_at t (suc k) (rank / width))) (rank % width) 0 ∷ [] = get_or_from_slice_get (labels t.generals t.commander t.general (suc (suc k))) rank _ [] child in
    record {
      some = positive;
      parent = rw less within;
      lower_off = rw less (λ lower_off e.
          child-below t.generals t.general (label_at t (suc k) (rank / width)) (rank % width) (get_or (others t.generals (t.general ∷ label_at t (suc k) (rank / width))) (rank % width) 0) lower_off is.general (lacking t (suc k) (rank / width) (label_at t (suc k) (rank / width)) is at) here (off-child t.generals t.general (label_at t (suc k) (rank / width)) (rank % width) _ here) e
          ∙ ap (λ (v : List ℕ). length (others t.general v)) (sym read));
    }
  where
    positive_of : (a b r : ℕ) → r < a * b → 0 < b
    positive_of a zero r h = absurd (let z : a * 0 ≡ 0 = omega arith in omega arith)
    positive_of a (suc b) r h = omega arith

-- Proves that the own order has an index among the decisions about the children.
pub place-few : (t : LieutenantTree) (size rank : ℕ) → IsCampaign t → 0 < size → rank < length (labels t.generals t.commander t.general size) → lower_off_at t size rank ≤ t.generals - 1 - size
unfolding lower_off_at
place-few t zero rank is some l = absurd (omega arith)
place-few t (suc k) rank is some l =
    let at : slice_get (labels t.generals t.commander t.general (suc k)) rank ≡ Some (label_at t (suc k) rank) = stands t (suc k) rank l in
    let without : on (label_at t (suc k) rank) t.general ≡ false = lacking t (suc k) rank (label_at t (suc k) rank) is at in
    let many : length (others t.generals (t.general ∷ label_at t (suc k) rank)) ≡ t.generals - 1 - suc k = wide t.generals t.commander t.general k rank (label_at t (suc k) rank) is.commander is.general is.lieutenant at in
    let same : length (others t.generals (t.general ∷ label_at t (suc k) rank)) ≡ length (others t.generals (label_at t (suc k) rank ++ t.general ∷ [])) = ap length (turned t.generals (label_at t (suc k) rank) t.general) in
    let one : length (others t.generals (label_at t (suc k) rank)) ≡ 1 + length (others t.generals (label_at t (suc k) rank ++ t.general ∷ [])) = others-length t.generals (label_at t (suc k) rank) t.general is.general without in
    let within : length (others t.general (label_at t (suc k) rank)) < length (others t.generals (label_at t (suc k) rank)) = slice_get_within (others t.generals (label_at t (suc k) rank)) (length (others t.general (label_at t (suc k) rank))) t.general (others-at t.generals (label_at t (suc k) rank) t.general is.general without) in
    omega arith
