use Rattle.signed.proofs.Agreeing.{holds}
use Rattle.signed.proofs.laws.signed_agreement.Goals as goal

pub returns : goal.returns
returns c = holds
