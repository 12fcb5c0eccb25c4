use Rattle.std.proofs.Common.{take, flat_map}
use Rattle.signed.specs.Sent.{sent_in}
use Rattle.trace.specs.SignedText.{letter_lines}
use Rattle.trace.specs.Sinks.{Wrote}
use Rattle.trace.specs.Text.{text}
use Rattle.trace.proofs.signed_letters.put_letters.Given as goal

abbrev pub invariant-loop-letter : goal.invariant-loop-letter
invariant-loop-letter g l =
    Wrote (g.S.Sink.contents l.fn.sink) (g.S.Sink.has_failed l.fn.sink)
    (text (flat_map (letter_lines (sent_in l.chronicle.scenario l.chronicle.letters) l.round) (take l.letter-index l.letters)))
    (g.S.Sink.contents l.sink) (g.S.Sink.has_failed l.sink)
