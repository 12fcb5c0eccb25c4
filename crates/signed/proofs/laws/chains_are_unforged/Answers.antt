use Rattle.signed.proofs.Concluding.{unforged_in}
use Rattle.signed.proofs.laws.chains_are_unforged.Goals as goal

pub returns : goal.returns
returns c = unforged_in
