use Rattle.absval.proofs.number_set.NumberSet.any.Goals as goal

pub returns-clause-holds : goal.returns-clause-holds
returns-clause-holds c = λ x h. record { range = c.full.ensures.holds x h; bits = c.unknown.ensures.holds x h }
