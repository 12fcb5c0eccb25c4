use Rattle.std.proofs.Common.{map, take}
use Rattle.std.specs.Prelude.{filter, ◌==◌}
use Rattle.trace.specs.Sinks.{Wrote}
use Rattle.trace.specs.Text.{text, access_line}
use Rattle.trace.proofs.lines.put_accesses.Given as goal

abbrev pub invariant-loop-access : goal.invariant-loop-access
invariant-loop-access g l = Wrote (g.S.Sink.contents l.fn.sink) (g.S.Sink.has_failed l.fn.sink) (text (map access_line (filter (λ a. a.round == l.round) (take l.access-index l.accesses)))) (g.S.Sink.contents l.sink) (g.S.Sink.has_failed l.sink)
