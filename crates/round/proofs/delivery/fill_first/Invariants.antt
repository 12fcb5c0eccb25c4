use Rattle.round.specs.Delivery.{IsTold}
use Rattle.round.proofs.EachTree.{AreDone}
use Rattle.round.proofs.delivery.fill_first.Given as goal

abbrev pub invariant-loop-index : goal.invariant-loop-index
invariant-loop-index l = AreDone (IsTold l.letters) l.fn.trees l.index l.trees
