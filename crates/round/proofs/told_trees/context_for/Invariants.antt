use Rattle.std.proofs.Common.{take}
use Rattle.round.specs.Told.{WasTold}
use Rattle.round.proofs.told_trees.context_for.Given as goal

abbrev pub invariant-loop-round : goal.invariant-loop-round
invariant-loop-round l = WasTold l.scenario (take l.round-index l.before) l.told
