use Rattle.std.proofs.Common.{arith}
use Rattle.signed.proofs.Masks.{less}
use Rattle.signed.proofs.sets.without.Goals as goal

pub returns : goal.returns
returns c = less c.args.bits c.args.others (omega arith) (omega arith)
