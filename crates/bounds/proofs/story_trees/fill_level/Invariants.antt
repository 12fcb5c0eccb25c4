use Rattle.std.proofs.Common.{ℕ}
use Rattle.bounds.specs.StoryTrees.{HoldsBelow}
use Rattle.bounds.proofs.StoryTreeLemmas.{HoldsUpTo}
use Rattle.bounds.proofs.story_trees.fill_level.Given as goal

abbrev pub invariant-loop-rank : goal.invariant-loop-rank
invariant-loop-rank l =
    (n m c p : ℕ) → HoldsBelow l.story l.size n m c p l.initial.tree → HoldsUpTo l.story l.size l.rank n m c p l.tree
