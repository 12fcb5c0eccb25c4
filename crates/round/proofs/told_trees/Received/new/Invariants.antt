use Rattle.round.proofs.Filling.{AreSilent}
use Rattle.round.proofs.told_trees.Received.new.Given as goal

abbrev pub invariant-loop-index : goal.invariant-loop-index
invariant-loop-index l = AreSilent l.scenario l.index l.trees.items
