use Rattle.std.proofs.Common.{ℕ, ◌<◌, ◌≤◌}
use Rattle.tree.specs.LieutenantTree.{level_of}
use Rattle.book.proofs.Hearing.{AreSmall}
use Rattle.book.proofs.kept_facts.recall_tree.Given as goal

-- The orders of the levels so far.
abbrev pub invariant-loop-size : goal.invariant-loop-size
invariant-loop-size l = (k : ℕ) → 0 < k → k ≤ l.size → AreSmall (level_of l.tree k)
