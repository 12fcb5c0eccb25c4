-- The contract holds after a write that took nothing, and after one more write.
use Rattle.std.proofs.Common.{◌+◌, arith, rules}
use Rattle.streams.proofs.WriteLemmas.{appends_front, appends_kept, appends_on}
use Rattle.streams.proofs.writer.write_whole.Goals as goal
use Rattle.streams.proofs.writer.write_whole.Goals.{in-Ok, in-Err}

pub returns-in-Ok-eq0-clause-begun : goal.returns-in-Ok-eq0-clause-begun
returns-in-Ok-eq0-clause-begun g c =
    let first = g.W.Write.contents c.args.writer.now in
    let then = g.W.Write.contents c.loop.writer in
    let last = g.W.Write.contents c.write.new.self in
    appends_front first last c.args.text.now (c.loop.written + c.in-Ok-eq0.field-0)
    (appends_on first then last c.args.text.now c.loop.written c.in-Ok-eq0.field-0 c.loop.invariant.taken (rw c.in-Ok-eq0.is at c.write.ensures.bytes))

pub loop-preserved : goal.loop-preserved
loop-preserved g c =
    let first = g.W.Write.contents c.args.writer.now in
    let then = g.W.Write.contents c.loop.writer in
    let last = g.W.Write.contents c.write.new.self in
    elim c.match-write.branch [
      | in-Ok w ↦ record {
        within = search rules;
        taken = rw w.written-is (appends_on first then last c.args.text.now c.loop.written _ c.loop.invariant.taken (rw w.in-Ok.is at c.write.ensures.bytes));
      }
      | in-Err w ↦ record {
        within = omega arith;
        taken = rw w.written-is (appends_kept first then last _ c.loop.invariant.taken (rw w.in-Err.is at c.write.ensures.bytes));
      }
    ]
