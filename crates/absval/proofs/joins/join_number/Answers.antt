use Rattle.std.proofs.Common.{subst}
use Rattle.absval.specs.declared.value.AbsVal.{AbsVal}
use Rattle.absval.specs.Contains.{Contains}
use Rattle.absval.proofs.Sets.{all_numbers}
use Rattle.absval.proofs.joins.join_number.Goals as goal

pub returns-in-Number-clause-left : goal.returns-in-Number-clause-left
returns-in-Number-clause-left c = λ v h. all_numbers c.args.m c.join.result c.join.ensures.left v h

pub returns-in-Number-clause-right : goal.returns-in-Number-clause-right
returns-in-Number-clause-right c = λ v h. all_numbers c.in-Number.n c.join.result c.join.ensures.right v (subst (λ (b : AbsVal). Contains b v) c.in-Number.is h)
