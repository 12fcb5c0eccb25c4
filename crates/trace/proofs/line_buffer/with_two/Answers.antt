use Rattle.std.proofs.Common.{◌/◌, arith, take}
use Rattle.trace.proofs.Repeating.{one_digit, one_digit_more}
use Rattle.trace.proofs.line_buffer.with_two.Goals as goal

pub returns-then-number-lt10-clause-bytes : goal.returns-then-number-lt10-clause-bytes
returns-then-number-lt10-clause-bytes c = one_digit c.args.number (take c.args.count c.args.bytes.now) _ c.if-number-lt10.true c.with_sign.ensures.bytes

pub returns-else-number-lt10-clause-bytes : goal.returns-else-number-lt10-clause-bytes
returns-else-number-lt10-clause-bytes c =
    one_digit_more c.args.number (take c.args.count c.args.bytes.now) _ _ (omega (arith, c.if-number-lt10.false)) (omega (arith, c.requires.number))
    (one_digit (c.args.number / 10) (take c.args.count c.args.bytes.now) _ (omega (arith, c.requires.number)) c.with_sign-end.ensures.bytes) c.with_digit.ensures.bytes
