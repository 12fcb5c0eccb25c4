-- Laws of labels, their lists, and the recursion of OM(m) over them. Each is the contract of a function of this
-- crate.
use Rattle.std.specs.Prelude.{ℕ, suc, ◌+◌, ◌-◌, ◌*◌, ◌<◌, ◌≤◌, ◌≡◌, ◌≢◌, false, List, [], ◌∷◌, ◌++◌, length, map, insert, Some, slice_get, ◌⊎◌}
use Rattle.label.specs.Labels.{on, others, labels}
use Rattle.label.specs.Oral.{IsLabel, Messages, taken, om}

-- States that the list of labels of k generals contains exactly the labels of this length that the lieutenant p is not
-- on.
pub record LabelsAreExact : Type 0 where
  pub only : (n c p k r : ℕ) (w : List ℕ) → c < n → p < n → p ≢ c → slice_get (labels n c p k) r ≡ Some w →
      IsLabel n c w × (on w p ≡ false) × (length w ≡ k)
  pub all : (n c p : ℕ) (w : List ℕ) → c < n → p < n → p ≢ c → IsLabel n c w → on w p ≡ false →
      (r : ℕ) × (slice_get (labels n c p (length w)) r ≡ Some w)

-- States that no label occurs twice in a list of labels.
abbrev pub LabelsDiffer : Type 0
LabelsDiffer = (n c p k i j : ℕ) (w : List ℕ) → c < n → p < n → p ≢ c → slice_get (labels n c p k) i ≡ Some w →
    slice_get (labels n c p k) j ≡ Some w → i ≡ j

-- States that the first of two lists of the same length comes before the second in lexicographic order.
abbrev pub LexBelow : List ℕ → List ℕ → Type 0
LexBelow [] ys = ⊥
LexBelow (x ∷ xs) [] = ⊥
LexBelow (x ∷ xs) (y ∷ ys) = (x < y) ⊎ ((x ≡ y) × LexBelow xs ys)

-- States that a list of labels is in lexicographic order, ascending.
abbrev pub LabelsAscend : Type 0
LabelsAscend = (n c p k i j : ℕ) (v w : List ℕ) → c < n → p < n → p ≢ c → i < j →
    slice_get (labels n c p k) i ≡ Some v → slice_get (labels n c p k) j ≡ Some w → LexBelow v w

-- States how many labels of each length there are: one of length 1. For each further length it is the previous number
-- times the number of generals who may be appended.
pub record LabelsAreCounted : Type 0 where
  pub first : (n c p : ℕ) → p ≢ c → length (labels n c p 1) ≡ 1
  pub further : (n c p k : ℕ) → c < n → p < n → p ≢ c →
      length (labels n c p (suc (suc k))) ≡ length (labels n c p (suc k)) * (n - 2 - k)

-- States that the labels that extend a label by one general (its children) are next to each other in the list of
-- labels of their length. They are sorted by that general.
abbrev pub ChildrenStand : Type 0
ChildrenStand = (n c p k r t j : ℕ) (w : List ℕ) → c < n → p < n → p ≢ c →
    slice_get (labels n c p (suc k)) r ≡ Some w → slice_get (others n (p ∷ w)) t ≡ Some j →
    slice_get (labels n c p (suc (suc k))) (r * (n - 2 - k) + t) ≡ Some (w ++ j ∷ [])

-- States that the decision of p depends only on the messages that he received for labels of at most `last` generals.
abbrev pub DecisionsReadOwn : Type 0
DecisionsReadOwn = (f : List ℕ → ℕ) (n c last p : ℕ) (M N : Messages) →
    ((w : List ℕ) → IsLabel n c w → on w p ≡ false → length w ≤ last → taken M w p ≡ taken N w p)
    → (k : ℕ) (w : List ℕ) → IsLabel n c w → on w p ≡ false → length w + k ≤ last → om f n M k w p ≡ om f n N k w p

-- States how p decides about a label: he combines his decisions about its children, the labels that extend it by one
-- general. His own value is inserted among them at his own position.
abbrev pub LevelsDecide : Type 0
LevelsDecide = (f : List ℕ → ℕ) (n : ℕ) (M : Messages) (k : ℕ) (w : List ℕ) (p : ℕ) → p < n → on w p ≡ false
    → om f n M (suc k) w p ≡ f
    (insert (map (λ j. om f n M k (w ++ j ∷ []) p) (others n (p ∷ w))) (length (others p w)) (taken M w p))
