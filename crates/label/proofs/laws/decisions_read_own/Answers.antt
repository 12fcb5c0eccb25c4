use Rattle.label.proofs.Same.{om-same}
use Rattle.label.proofs.laws.decisions_read_own.Goals as goal

pub returns : goal.returns
returns c = om-same
