use Rattle.surveys.proofs.Heads.{heads_law}
use Rattle.surveys.proofs.laws.heads_tell_families.Goals as goal

pub returns : goal.returns
returns c = heads_law
