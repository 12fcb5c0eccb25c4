use Rattle.std.proofs.Common.{map, take}
use Rattle.signed.specs.Sending.{dispatch_of}
use Rattle.trace.specs.Sinks.{Wrote}
use Rattle.trace.specs.SignedText.{chain_line}
use Rattle.trace.specs.Text.{text}
use Rattle.trace.proofs.chains.put_chains.Given as goal

abbrev pub invariant-loop-chain : goal.invariant-loop-chain
invariant-loop-chain g l = Wrote (g.S.Sink.contents l.fn.sink) (g.S.Sink.has_failed l.fn.sink) (text (map chain_line (map dispatch_of (take l.chain-index l.chains)))) (g.S.Sink.contents l.sink) (g.S.Sink.has_failed l.sink)
