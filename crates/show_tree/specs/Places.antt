-- The name of a label in a drawn tree of lieutenant p, and the branches that lead to it.
use Rattle.std.specs.Prelude.{ℕ, ◌+◌, ◌==◌, nat_le, Bool, true, false, List, ◌∷◌, ◌++◌, take, length, slice_index, codes}
use Rattle.std.specs.Fmt.{decimal}
use Rattle.std.specs.List.{flat_map, list_all}
use Rattle.label.specs.Labels.{others}
use Rattle.show_tree.specs.declared.node.Branch.{Branch}
use Rattle.show_tree.specs.declared.node.Branch.TheVariants.{Tee, Corner, Bar, Gap}

-- Writes these generals, each after a dot, such as `.2.3`.
abbrev pub later_names : List ℕ → List ℕ
later_names gs = flat_map (λ h. codes "." ++ decimal h) gs

-- Returns whether each of the n generals who is not on the list w has a number of at most j.
abbrev pub is_last : ℕ → List ℕ → ℕ → Bool
is_last n w j = list_all (λ i. nat_le i j) (others n w)

-- Returns how a branch looks in a row. The arguments are whether it leads to the last label of its group, and whether
-- this label is in the row.
abbrev pub branch_of : Bool → Bool → Branch
branch_of true true = Corner
branch_of false true = Tee
branch_of true false = Gap
branch_of false false = Bar

-- Returns the branch in column i of the row of w. It leads from the first i + 1 generals of w to the labels that
-- extend them.
abbrev pub branch_at : ℕ → ℕ → List ℕ → ℕ → Branch
branch_at n p w i = branch_of (is_last n (p ∷ take (i + 1) w) (slice_index w (i + 1))) (i + 2 == length w)
