use Rattle.signed.proofs.Concluding.{worlds_agree}
use Rattle.signed.proofs.laws.signed_worlds_agree.Goals as goal

pub returns : goal.returns
returns c = worlds_agree
