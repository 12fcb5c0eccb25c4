use Rattle.std.proofs.Common.{flat_map, take}
use Rattle.trace.specs.Sinks.{Wrote}
use Rattle.trace.proofs.ChainLemmas.{behind_dot}
use Rattle.trace.proofs.chains.put_joined.Given as goal

abbrev pub invariant-loop-general : goal.invariant-loop-general
invariant-loop-general g l = Wrote (g.S.Sink.contents l.fn.sink) (g.S.Sink.has_failed l.fn.sink) (flat_map behind_dot (take l.general-index l.generals)) (g.S.Sink.contents l.sink) (g.S.Sink.has_failed l.sink)
