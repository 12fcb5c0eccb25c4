-- How the code stores a label while it delivers a round: by its ranks (own). No claim rests on this file.
use Rattle.std.specs.Prelude.{ℕ, zero, suc, ◌-◌, ◌*◌, ◌<◌, ◌≡◌, false, List, length, slice_get, slice_index, slice_index_or, Some}
use Rattle.label.specs.Labels.{on, labels}
use Rattle.label.specs.Oral.{IsLabel}
use Rattle.round.specs.declared.front.LabelPrefix.{LabelPrefix}

-- States that `f` stores the label `w`: which generals are on it, and for each general off it, its rank among the
-- labels of the same length that do not have him.
pub record IsFront (n c : ℕ) (w : List ℕ) (f : LabelPrefix) : Type 0 where
  pub label : IsLabel n c w
  pub size : f.size ≡ length w
  pub wide : length f.on ≡ 13
  pub long : length f.ranks ≡ 13
  pub marks : (x : ℕ) → x < n → slice_index_or f.on x false ≡ on w x
  pub stands : (x : ℕ) → x < n → on w x ≡ false → slice_get (labels n c x (length w)) (slice_index f.ranks x) ≡ Some w

-- Returns how many labels of `n` generals extend a given label of length `k` by `more` generals and do not have a given
-- general who is off it.
unfoldable pub under : ℕ → ℕ → ℕ → ℕ
under n k zero = 1
under n k (suc more) = (n - 1 - k) * under n (suc k) more
