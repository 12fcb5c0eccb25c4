use Rattle.signed.proofs.Verdicts.{proved_verdicts}
use Rattle.signed.proofs.laws.signed_verdicts_mean.Goals as goal

pub returns : goal.returns
returns c = proved_verdicts
