use Rattle.std.proofs.Common.{◌≡◌, map, ◌∷◌, []}
use Rattle.label.specs.Labels.{others}
use Rattle.book.specs.Trees.{tree_of}
use Rattle.lies.specs.BreakTrees.{messages_of}
use Rattle.lies.proofs.break_trees.break_trees.Given as goal

abbrev pub invariant-loop-general : goal.invariant-loop-general
invariant-loop-general g l =
    l.trees.items ≡ map (tree_of l.generals l.bound l.commander (messages_of (g.C.Combine.combined l.rule) l.generals l.bound l.commander l.found)) (others l.general (l.commander ∷ []))
