use Rattle.world.proofs.Counted.{HasCounted}
use Rattle.world.proofs.judgement.traitors.Given as goal

abbrev pub invariant-loop-general : goal.invariant-loop-general
invariant-loop-general l = HasCounted l.scenario l.general l.traitors
