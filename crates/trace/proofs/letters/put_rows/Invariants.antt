use Rattle.std.proofs.Common.{◌+◌, ◌≤◌, length, take}
use Rattle.trace.specs.Sinks.{WroteBut}
use Rattle.trace.specs.Text.{text, row_lines}
use Rattle.trace.proofs.letters.put_rows.Given as goal

abbrev pub invariant-loop-rank : goal.invariant-loop-rank
invariant-loop-rank g l =
    WroteBut (g.S.Sink.contents l.fn.sink) (g.S.Sink.has_failed l.fn.sink) (text (row_lines 0 (take l.rank l.outbox.rows))) (g.S.Sink.contents l.sink) (g.S.Sink.has_failed l.sink) l.lines
    × (length l.lines + 158 ≤ 1024)
