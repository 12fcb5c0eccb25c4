use Rattle.std.proofs.Common.{arith, take}
use Rattle.trace.proofs.Repeating.{one_digit_more}
use Rattle.trace.proofs.line_buffer.with_number.Goals as goal

pub returns-then-number-lt1000-clause-bytes : goal.returns-then-number-lt1000-clause-bytes
returns-then-number-lt1000-clause-bytes c =
    one_digit_more c.args.number (take c.args.count c.args.bytes.now) _ _ (omega (arith, c.if-number-lt100.false)) (omega (arith, c.if-number-lt1000.true)) c.with_two-end.ensures.bytes c.with_digit.ensures.bytes
