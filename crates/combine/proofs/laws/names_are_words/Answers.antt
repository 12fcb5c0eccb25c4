use Rattle.combine.proofs.RuleLaws.{names_law}
use Rattle.combine.proofs.laws.names_are_words.Goals as goal

pub returns : goal.returns
returns c = names_law
