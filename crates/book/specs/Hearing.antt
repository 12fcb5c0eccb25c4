-- What lieutenants received, which their trees contain, as one message function.
use Rattle.std.specs.Prelude.{ℕ, ◌==◌, List, ◌∷◌, length, find, bytes_eq as same_label, Option, None, Some, cond}
use Rattle.label.specs.Labels.{labels}
use Rattle.tree.specs.LieutenantTree.{LieutenantTree, level_of}

-- Returns the value in the second list that is at the position of the label `w` in the first.
abbrev pub beside : List ℕ → List (List ℕ) → List (Option ℕ) → Option ℕ
beside w (v ∷ vs) (x ∷ xs) = cond (same_label v w) x (beside w vs xs)
beside w _ _ = None

-- Returns the order that a tree contains for a label: the value at the label's rank in the level of its length.
abbrev pub value_of : Option LieutenantTree → List ℕ → Option ℕ
value_of None w = None
value_of (Some t) w = beside w (labels t.generals t.commander t.general (length w)) (level_of t (length w))

-- Returns the order that the tree of receiver `p` contains for the label, if there is such a tree and it contains one.
unfoldable pub heard : List LieutenantTree → List ℕ → ℕ → Option ℕ
heard trees w p = value_of (find (λ t. t.general == p) trees) w
