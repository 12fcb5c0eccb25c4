use Rattle.std.proofs.Common.{rules, ◌∷◌, [], take, arith}
use Rattle.trace.proofs.Repeating.{once_more}
use Rattle.trace.proofs.line_buffer.with_signs.Goals as goal

pub loop-time-preserved : goal.loop-time-preserved
loop-time-preserved c = record {
  written = once_more c.loop-time.time (32 ∷ c.args.sign ∷ []) (take c.args.count c.args.bytes.now) _ _ c.loop-time.invariant.written c.with_sign-end.ensures.bytes;
  room = omega (arith, c.loop-time.invariant.room, c.with_sign-end.ensures.count);
  long = search (rules, c.loop-time.invariant.long);
}
