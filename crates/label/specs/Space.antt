-- Spaces of labels: the labels of a campaign that one lieutenant is not on.
use Rattle.std.specs.Prelude.{ℕ, ◌<◌, ◌≤◌, ◌≢◌, List, Bool, false, not, ◌&&◌, ◌==◌, ◌≡◌, nat_lt, [], ◌∷◌, length, Some, slice_get}
use Rattle.std.specs.List.{list_all}
use Rattle.label.specs.Labels.{on, labels}
use Rattle.label.specs.declared.space.Space.{Space}

-- States that the numbers of the space are within their limits: at most 13 generals, among them the commander and the
-- space's general.
pub record IsWithinLimits (s : Space) : Type 0 where
  pub generals : s.generals ≤ 13
  pub commander : s.commander < s.generals
  pub general : s.general < s.generals

-- States that the numbers of the space are within their limits, and that its general is a lieutenant.
pub record IsSpace (s : Space) : Type 0 where
  pub generals : s.generals ≤ 13
  pub commander : s.commander < s.generals
  pub general : s.general < s.generals
  pub lieutenant : s.general ≢ s.commander

-- Returns the labels of k generals that the space's lieutenant is not on.
abbrev pub labels_of : Space → ℕ → List (List ℕ)
labels_of s k = labels s.generals s.commander s.general k

-- States that the label w has the rank r: it has this index in the list of the space's labels with the same length.
abbrev pub HasRank : Space → List ℕ → ℕ → Type 0
HasRank s w r = slice_get (labels_of s (length w)) r ≡ Some w

-- Returns whether the list begins with the commander.
abbrev pub begins_with : ℕ → List ℕ → Bool
begins_with c [] = false
begins_with c (x ∷ xs) = x == c

-- Returns whether a list of different generals is a label of the space: it begins with the commander, all its
-- generals exist, and the space's lieutenant is not on it.
abbrev pub is_label_of : Space → List ℕ → Bool
is_label_of s w = begins_with s.commander w && list_all (λ x. nat_lt x s.generals) w && not (on w s.general)
