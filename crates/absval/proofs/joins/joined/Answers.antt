use Rattle.std.proofs.Common.{rules}
use Rattle.absval.proofs.Near.{join_near}
use Rattle.absval.proofs.joins.joined.Goals as goal

pub invariant_of-result : goal.invariant_of-result
invariant_of-result c =
    join_near c.m.inside.low c.m.inside.high c.n.inside.low c.n.inside.high _ _ c.m.invariant c.n.invariant (search rules) (search rules)
