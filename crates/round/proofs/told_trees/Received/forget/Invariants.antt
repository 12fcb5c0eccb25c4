use Rattle.std.proofs.Common.{◌≡◌}
use Rattle.tree.specs.LieutenantTree.{blank}
use Rattle.round.proofs.EachTree.{AreChangedTo}
use Rattle.round.proofs.told_trees.Received.forget.Given as goal

abbrev pub invariant-loop-index : goal.invariant-loop-index
invariant-loop-index l = record {
  rounds : l.self-inside.rounds ≡ l.initial.self-inside.rounds;
  trees : AreChangedTo l.initial.self-inside.trees.items (λ M. blank M l.initial.self-inside.rounds) l.index l.self-inside.trees.items;
}
