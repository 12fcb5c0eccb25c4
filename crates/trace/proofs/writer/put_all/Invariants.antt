use Rattle.std.proofs.Common.{length, ◌-◌, ◌≡◌, ◌≤◌, take, false}
use Rattle.std.specs.Io.KnownBytes.{Appends}
use Rattle.trace.proofs.writer.put_all.Given as goal

abbrev pub invariant-loop-from : goal.invariant-loop-from
invariant-loop-from g l = record { within : l.from ≤ length l.piece; grown : Appends (g.S.Sink.contents l.fn.sink) (g.S.Sink.contents l.sink) (take l.from l.piece); fine : g.S.Sink.has_failed l.sink ≡ false }

abbrev pub decreases-loop-from : goal.decreases-loop-from
decreases-loop-from g l = length l.piece - l.from
