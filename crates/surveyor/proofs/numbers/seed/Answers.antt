use Rattle.surveyor.proofs.NumberLemmas.{none_below}
use Rattle.surveyor.proofs.numbers.seed.Goals as goal

pub returns-clause-refused : goal.returns-clause-refused
returns-clause-refused c = none_below 18446744073709551615 c.args.word.now c.below.result c.below.ensures.refused
