use Rattle.world.proofs.Verdicts.{proved_verdicts_mean}
use Rattle.world.proofs.laws.verdicts_mean.Goals as goal

pub returns : goal.returns
returns c = proved_verdicts_mean
