use Rattle.bounds.proofs.DenialLaws.{proved_denial_breaks}
use Rattle.bounds.proofs.laws.denial_breaks.Goals as goal

pub returns : goal.returns
returns c = proved_denial_breaks
