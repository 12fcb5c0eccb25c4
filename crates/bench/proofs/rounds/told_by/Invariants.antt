use Rattle.std.proofs.Common.{take}
use Rattle.round.specs.Told.{WasTold}
use Rattle.bench.proofs.rounds.told_by.Given as goal

abbrev pub invariant-loop-round : goal.invariant-loop-round
invariant-loop-round l = WasTold l.scenario (take l.round-index l.rounds) l.told
