use Rattle.std.proofs.Common.{◌≡◌, take, None}
use Rattle.std.specs.Prelude.{◌==◌, find}
use Rattle.book.proofs.trees.heard.Given as goal

-- No tree so far is the receiver's.
abbrev pub invariant-loop-tree : goal.invariant-loop-tree
invariant-loop-tree l = find (λ t. t.general == l.receiver) (take l.tree-index l.trees) ≡ None
