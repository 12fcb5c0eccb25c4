use Rattle.std.proofs.Common.{take}
use Rattle.std.specs.List.{AllZip}
use Rattle.resolve.specs.Decided.{Decides}
use Rattle.resolve.proofs.halves.in_turn.Given as goal

abbrev pub invariant-loop-tree : goal.invariant-loop-tree
invariant-loop-tree g l = AllZip (Decides (g.C.Combine.combined l.rule)) (take l.tree-index l.trees) l.decisions.items
