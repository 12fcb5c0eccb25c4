use Rattle.signed.proofs.Concluding.{few_in}
use Rattle.signed.proofs.laws.chains_are_few.Goals as goal

pub returns : goal.returns
returns c = few_in
