use Rattle.signed.proofs.Concluding.{held_few_in}
use Rattle.signed.proofs.laws.held_chains_are_few.Goals as goal

pub returns : goal.returns
returns c = held_few_in
