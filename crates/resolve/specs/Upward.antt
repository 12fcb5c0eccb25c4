-- One level of a lieutenant's decisions, computed from his decisions about the labels with one general more.
use Rattle.std.specs.Prelude.{ℕ, ◌+◌, ◌-◌, ◌*◌, List, [], map, insert, length, slice_range, slice_index_or}
use Rattle.label.specs.Labels.{others, labels}
use Rattle.label.specs.Oral.{Messages, om}
use Rattle.tree.specs.LieutenantTree.{LieutenantTree}
use Rattle.resolve.specs.Decided.{order_at_rank}

-- Returns the label with `size` generals and this rank, among the labels that the lieutenant is not on.
abbrev pub label_at : LieutenantTree → ℕ → ℕ → List ℕ
label_at t size rank = slice_index_or (labels t.generals t.commander t.general size) rank []

-- Returns how many generals with a lower number than the lieutenant are not on the label with `size` generals and
-- this rank.
unfoldable pub lower_off_at : LieutenantTree → ℕ → ℕ → ℕ
lower_off_at t size rank = length (others t.general (label_at t size rank))

-- Returns the decisions about the labels that extend the label with `size` generals and this rank by one general.
-- `below` are the decisions about all labels with `size + 1` generals, by rank.
abbrev pub children_of : LieutenantTree → List ℕ → ℕ → ℕ → List ℕ
children_of t below size rank =
    slice_range below (rank * (t.generals - 1 - size)) (rank * (t.generals - 1 - size) + (t.generals - 1 - size))

-- Returns what the lieutenant decides about the label with `size` generals and this rank. This is `f` of the
-- decisions about the labels that extend it by one general, with the order that he received himself inserted at his
-- own position.
unfoldable pub upward : (List ℕ → ℕ) → LieutenantTree → List ℕ → ℕ → ℕ → ℕ
upward f t below size rank =
    f (insert (children_of t below size rank) (lower_off_at t size rank) (order_at_rank t size rank))

-- Returns what the lieutenant decides about each label with `size` generals, by rank. Up to k further generals can
-- extend these labels.
unfoldable pub decisions_at : (List ℕ → ℕ) → LieutenantTree → Messages → ℕ → ℕ → List ℕ
decisions_at f t M k size = map (λ w. om f t.generals M k w t.general) (labels t.generals t.commander t.general size)
