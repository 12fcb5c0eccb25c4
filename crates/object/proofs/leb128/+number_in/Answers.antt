use Rattle.std.proofs.Common.{arith}
use Rattle.object.proofs.NumberLemmas.{number_last}
use Rattle.object.proofs.leb128.+number_in.Goals as goal

pub returns-then-byte-lt128-clause-read : goal.returns-then-byte-lt128-clause-read
returns-then-byte-lt128-clause-read t c =
    number_last c.args.signed c.args.most c.args.place c.args.bytes.now c.byte_at-byte.result c.last_byte.result
    (omega arith) (omega arith) c.byte_at-byte.ensures c.if-byte-lt128.true c.last_byte.ensures
