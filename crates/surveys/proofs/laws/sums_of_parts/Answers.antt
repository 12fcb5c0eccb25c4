use Rattle.surveys.proofs.SumLemmas.{sums_law}
use Rattle.surveys.proofs.laws.sums_of_parts.Goals as goal

pub returns : goal.returns
returns c = sums_law
