use Rattle.verify.proofs.PlainJudged.{plain_judged}
use Rattle.verify.proofs.laws.plain_is_accepted.Goals as goal

pub returns : goal.returns
returns c = plain_judged
