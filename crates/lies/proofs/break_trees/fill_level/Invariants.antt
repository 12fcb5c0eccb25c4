use Rattle.std.proofs.Common.{ℕ}
use Rattle.lies.specs.BreakTrees.{HoldsBelow, messages_of}
use Rattle.lies.proofs.BreakTreeLemmas.{HoldsUpTo}
use Rattle.lies.proofs.break_trees.fill_level.Given as goal

abbrev pub invariant-loop-rank : goal.invariant-loop-rank
invariant-loop-rank g l =
    (n m c p : ℕ) → HoldsBelow (messages_of (g.C.Combine.combined l.rule) n l.bound c l.found) l.size n m c p l.initial.tree → HoldsUpTo (messages_of (g.C.Combine.combined l.rule) n l.bound c l.found) l.size l.rank n m c p l.tree
