use Rattle.std.proofs.Common.{rules}
use Rattle.range.specs.Table.{extended_used}
use Rattle.range.proofs.RangeUnary.{used_extended}
use Rattle.range.proofs.unary_operations.sign_extend.Goals as goal

pub returns-then-is_single-clause-exact : goal.returns-then-is_single-clause-exact
unfolding extended_used
returns-then-is_single-clause-exact c = rw (← c.used-a.ensures.exact) (search rules)

pub returns-then-is_single-clause-holds : goal.returns-then-is_single-clause-holds
returns-then-is_single-clause-holds c = λ x p.
    rw (returns-then-is_single-clause-exact c, ← c.used-a.ensures.exact) (used_extended c.args.width c.args.part c.used-a.result x (c.used-a.ensures.holds x p, c.used-a.ensures.below)).0

pub returns-then-a-least_negative_part-clause-exact : goal.returns-then-a-least_negative_part-clause-exact
unfolding extended_used
returns-then-a-least_negative_part-clause-exact c = rw (← c.used-a.ensures.exact) (search rules)

pub returns-then-a-least_negative_part-clause-holds : goal.returns-then-a-least_negative_part-clause-holds
returns-then-a-least_negative_part-clause-holds c = λ x p.
    rw (returns-then-a-least_negative_part-clause-exact c, ← c.used-a.ensures.exact) (used_extended c.args.width c.args.part c.used-a.result x (c.used-a.ensures.holds x p, c.used-a.ensures.below)).0

pub returns-clause-exact : goal.returns-clause-exact
unfolding extended_used
returns-clause-exact c = rw (← c.used-a.ensures.exact) (search rules)
