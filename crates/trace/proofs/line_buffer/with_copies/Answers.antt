use Rattle.std.proofs.Common.{rules, ◌∷◌, [], take, arith}
use Rattle.trace.proofs.Repeating.{once_more}
use Rattle.trace.proofs.line_buffer.with_copies.Goals as goal

pub loop-time-preserved : goal.loop-time-preserved
loop-time-preserved c = record {
  written = once_more c.loop-time.time c.args.piece.now (take c.args.count c.args.bytes.now) _ _ c.loop-time.invariant.written c.with_piece-end.ensures.bytes;
  room = omega (arith, c.loop-time.invariant.room, c.with_piece-end.ensures.count);
  long = search (rules, c.loop-time.invariant.long);
}
