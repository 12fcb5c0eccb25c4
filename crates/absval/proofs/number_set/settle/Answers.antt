use Rattle.std.proofs.Common.{rules}
use Rattle.absval.specs.NumberSets.{settled}
use Rattle.absval.proofs.number_set.settle.Goals as goal

pub returns-in_default-clause-exact : goal.returns-in_default-clause-exact
unfolding settled
returns-in_default-clause-exact c = search rules

pub returns-clause-exact : goal.returns-clause-exact
unfolding settled
returns-clause-exact c = search rules

pub returns-in_default-clause-holds : goal.returns-in_default-clause-holds
returns-in_default-clause-holds c = λ x p h. absurd (c.in_default.ensures.holds x p h)
