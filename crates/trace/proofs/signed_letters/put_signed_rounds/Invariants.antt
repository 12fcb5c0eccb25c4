use Rattle.std.proofs.Common.{take}
use Rattle.signed.specs.Sent.{sent_in}
use Rattle.trace.specs.SignedText.{letter_lines}
use Rattle.trace.specs.Sinks.{Wrote}
use Rattle.trace.specs.Text.{rounds_told, text}
use Rattle.trace.proofs.signed_letters.put_signed_rounds.Given as goal

abbrev pub invariant-loop-number : goal.invariant-loop-number
invariant-loop-number g l =
    Wrote (g.S.Sink.contents l.fn.sink) (g.S.Sink.has_failed l.fn.sink)
    (text (rounds_told (letter_lines (sent_in l.chronicle.scenario l.chronicle.letters)) l.chronicle.accesses 1 (take l.number l.chronicle.letters)))
    (g.S.Sink.contents l.sink) (g.S.Sink.has_failed l.sink)
