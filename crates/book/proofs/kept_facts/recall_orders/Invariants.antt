use Rattle.std.proofs.Common.{ℕ, ◌<◌, ◌≡◌, Some}
use Rattle.std.specs.Prelude.{slice_get}
use Rattle.tree.specs.LieutenantTree.{LieutenantTree}
use Rattle.book.proofs.Hearing.{AreLevelsSmall}
use Rattle.book.proofs.kept_facts.recall_orders.Given as goal

-- The orders of the trees so far.
abbrev pub invariant-loop-tree : goal.invariant-loop-tree
invariant-loop-tree l = (i : ℕ) (t : LieutenantTree) → i < l.tree-index → slice_get l.trees i ≡ Some t → AreLevelsSmall t
