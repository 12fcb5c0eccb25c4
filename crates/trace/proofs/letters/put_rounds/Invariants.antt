use Rattle.std.proofs.Common.{take}
use Rattle.trace.specs.Sinks.{Wrote}
use Rattle.trace.specs.Text.{text, round_lines}
use Rattle.trace.proofs.letters.put_rounds.Given as goal

abbrev pub invariant-loop-number : goal.invariant-loop-number
invariant-loop-number g l = Wrote (g.S.Sink.contents l.fn.sink) (g.S.Sink.has_failed l.fn.sink) (text (round_lines 1 l.accesses (take l.number l.rounds))) (g.S.Sink.contents l.sink) (g.S.Sink.has_failed l.sink)
