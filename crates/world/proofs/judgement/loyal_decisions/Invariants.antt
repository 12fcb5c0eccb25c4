use Rattle.world.proofs.Counted.{HasGathered}
use Rattle.world.proofs.judgement.loyal_decisions.Given as goal

abbrev pub invariant-loop-general : goal.invariant-loop-general
invariant-loop-general l = HasGathered l.scenario l.decisions l.general l.place l.loyal.items
