use Rattle.book.proofs.ConditionLemmas.{proved_conditions_mean}
use Rattle.book.proofs.theorem.conditions_mean.Goals as goal

pub returns : goal.returns
returns c = proved_conditions_mean
