use Rattle.std.proofs.Common.{map, take}
use Rattle.std.specs.Prelude.{decimal}
use Rattle.trace.specs.Sinks.{Wrote}
use Rattle.trace.specs.Text.{further}
use Rattle.trace.proofs.lines.put_numbers.Given as goal

abbrev pub invariant-loop-number : goal.invariant-loop-number
invariant-loop-number g l = Wrote (g.S.Sink.contents l.fn.sink) (g.S.Sink.has_failed l.fn.sink) (further (map decimal (take l.number-index l.numbers))) (g.S.Sink.contents l.sink) (g.S.Sink.has_failed l.sink)
