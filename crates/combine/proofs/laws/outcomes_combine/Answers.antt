use Rattle.combine.proofs.RuleLaws.{outcomes_law}
use Rattle.combine.proofs.laws.outcomes_combine.Goals as goal

pub returns : goal.returns
returns c = outcomes_law
