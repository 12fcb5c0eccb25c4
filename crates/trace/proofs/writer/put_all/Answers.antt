use Rattle.std.proofs.Common.{sym, ◌∙◌}
use Rattle.trace.proofs.WrittenLemmas.{put_more, put_none, some_left}
use Rattle.trace.proofs.writer.put_all.Goals as goal

pub loop-from-preserved : goal.loop-from-preserved
loop-from-preserved g c =
    let left = some_left c.args.piece.now c.loop-from.from c.loop-from-test.true in
    let h = put_more c.args.piece.now c.loop-from.from c.in-Some.taken (g.S.Sink.contents c.args.sink.now) (g.S.Sink.contents c.loop-from.sink) (g.S.Sink.contents c.put.new.self) c.loop-from-test.true c.in-Some.ensures.taken.0 c.loop-from.invariant.grown c.in-Some.ensures.taken.1 in
    record { within = h.0; grown = h.1; fine = c.in-Some.ensures.failed left }

pub returns-in-None : goal.returns-in-None
returns-in-None g c =
    let left = some_left c.args.piece.now c.loop-from.from c.loop-from-test.true in
    put_none c.args.piece.now c.loop-from.from (g.S.Sink.contents c.args.sink.now) (g.S.Sink.contents c.loop-from.sink) (g.S.Sink.contents c.put.new.self) (g.S.Sink.has_failed c.args.sink.now) (g.S.Sink.has_failed c.put.new.self) c.loop-from.invariant.grown c.in-None.ensures.kept (c.in-None.ensures.failed left) (sym c.failed.ensures ∙ c.if-failed.false)
