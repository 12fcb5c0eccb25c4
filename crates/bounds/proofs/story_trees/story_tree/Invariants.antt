use Rattle.bounds.specs.StoryTrees.{HoldsBelow}
use Rattle.bounds.proofs.story_trees.story_tree.Given as goal

abbrev pub invariant-loop-size : goal.invariant-loop-size
invariant-loop-size l = HoldsBelow l.story l.size l.generals l.bound l.commander l.general l.tree
