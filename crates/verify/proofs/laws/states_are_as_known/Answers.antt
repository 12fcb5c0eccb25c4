use Rattle.verify.proofs.KnownLaws.{states_as_known}
use Rattle.verify.proofs.laws.states_are_as_known.Goals as goal

pub returns : goal.returns
returns c = states_as_known
