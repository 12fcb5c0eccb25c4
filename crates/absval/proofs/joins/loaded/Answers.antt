use Rattle.std.proofs.Common.{arith}
use Rattle.absval.proofs.joins.loaded.Goals as goal

pub returns-clause-holds : goal.returns-clause-holds
returns-clause-holds c = λ n h. c.within.ensures.holds n (omega (arith, c.numbers_of.ensures.low), c.numbers_of.ensures.high n h)
