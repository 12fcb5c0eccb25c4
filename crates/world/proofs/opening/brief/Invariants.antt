use Rattle.world.proofs.Briefed.{AreBriefed}
use Rattle.world.proofs.opening.brief.Given as goal

abbrev pub invariant-loop-general : goal.invariant-loop-general
invariant-loop-general l = AreBriefed l.scenario l.closed l.general l.parts.items
