use Rattle.std.proofs.Common.{take}
use Rattle.round.proofs.TreeTables.{AreNamedTold}
use Rattle.round.proofs.delivery.fill_all_children.Given as goal

abbrev pub invariant-loop-number : goal.invariant-loop-number
invariant-loop-number l = AreNamedTold l.letters l.size l.front (take l.number l.names) l.fn.trees l.trees
