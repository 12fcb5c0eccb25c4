-- The laws of the list of labels that specs/Laws states.
use Rattle.std.proofs.Common.{ℕ, zero, suc, ◌<◌, ◌≡◌, ◌≢◌, false, List, length, ap, Some}
use Rattle.std.specs.Prelude.{slice_get}
use Rattle.label.specs.Labels.{on, labels}
use Rattle.label.specs.Oral.{IsLabel}
use Rattle.label.specs.Laws.{LabelsAreExact, LabelsDiffer, LabelsAscend, LabelsAreCounted, ChildrenStand}
use Rattle.label.proofs.Places.{IsOneOf, all-at, labels-are, places_differ, count_is_product, first_label}
use Rattle.label.proofs.Places.{children_stand as children_of}
use Rattle.label.proofs.Order.{labels_ascend as ascending}
use Rattle.label.proofs.Same.{label_stands}

none_stands : (n c p r : ℕ) (w : List ℕ) → slice_get (labels n c p 0) r ≡ Some w → ⊥
unfolding labels
none_stands n c p r w e = cc

only_labels : (n c p k r : ℕ) (w : List ℕ) → c < n → p < n → p ≢ c → slice_get (labels n c p k) r ≡ Some w → IsLabel n c w × (on w p ≡ false) × (length w ≡ k)
only_labels n c p zero r w inside within ne e = absurd (none_stands n c p r w e)
only_labels n c p (suc k) r w inside within ne e =
    let one : IsOneOf n c p k w = all-at (IsOneOf n c p k) (labels n c p (suc k)) r w (labels-are n c p k inside ne) e in
    (one.label, one.without, one.long)

pub proved_labels_are_exact : LabelsAreExact
proved_labels_are_exact = record { only = only_labels; all = label_stands }

pub proved_labels_differ : LabelsDiffer
proved_labels_differ n c p zero i j w inside within ne e e' = absurd (none_stands n c p i w e)
proved_labels_differ n c p (suc k) i j w inside within ne e e' = places_differ n c p k inside within ne i j w e e'

pub proved_labels_ascend : LabelsAscend
proved_labels_ascend n c p zero i j v w inside within ne l e e' = absurd (none_stands n c p i v e)
proved_labels_ascend n c p (suc k) i j v w inside within ne l e e' = ascending n c p k i j v w inside within ne l e e'

pub proved_labels_are_counted : LabelsAreCounted
proved_labels_are_counted = record { first = λ n c p ne. ap length (first_label n c p ne); further = count_is_product }

pub proved_children_stand : ChildrenStand
proved_children_stand = children_of
