use Rattle.round.proofs.TreeTables.{AreTreeIndicesUpTo}
use Rattle.round.proofs.delivery.find_trees.Given as goal

abbrev pub invariant-loop-index : goal.invariant-loop-index
invariant-loop-index l = AreTreeIndicesUpTo l.trees l.index l.tree_indices
