use Rattle.trace.proofs.DecisionLemmas.{HasTold}
use Rattle.trace.proofs.letters.put_decisions.Given as goal

abbrev pub invariant-loop-general : goal.invariant-loop-general
invariant-loop-general g l = HasTold l.scenario l.decisions l.general l.place (g.S.Sink.contents l.fn.sink) (g.S.Sink.has_failed l.fn.sink) (g.S.Sink.contents l.sink) (g.S.Sink.has_failed l.sink)
