use Rattle.lies.specs.BreakTrees.{HoldsBelow, messages_of}
use Rattle.lies.proofs.break_trees.break_tree.Given as goal

abbrev pub invariant-loop-size : goal.invariant-loop-size
invariant-loop-size g l = HoldsBelow (messages_of (g.C.Combine.combined l.rule) l.generals l.bound l.commander l.found) l.size l.generals l.bound l.commander l.general l.tree
