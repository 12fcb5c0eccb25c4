use Rattle.world.proofs.Verdicts.{proved_decisions_agree}
use Rattle.world.proofs.laws.decisions_agree.Goals as goal

pub returns : goal.returns
returns c = proved_decisions_agree
