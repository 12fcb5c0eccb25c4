use Rattle.label.proofs.Own.{om-level}
use Rattle.label.proofs.laws.levels_decide.Goals as goal

pub returns : goal.returns
returns c = om-level
