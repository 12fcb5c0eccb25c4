use Rattle.std.proofs.Common.{arith}
use Rattle.absmem.proofs.Masks.{bit_set, bit_cleared}
use Rattle.absmem.proofs.mask.put.Goals as goal

pub returns-then-value : goal.returns-then-value
returns-then-value c = λ i lt. rw (c.if-value.true) (bit_set c.args.word c.args.mask i)

pub returns-else-value : goal.returns-else-value
returns-else-value c = λ i lt. rw (c.if-value.false) (bit_cleared c.args.word c.args.mask i (omega arith) lt)
