use Rattle.explain.proofs.HelpLaws.{helps_mend}
use Rattle.explain.proofs.laws.helps_mend.Goals as goal

pub returns : goal.returns
returns c = helps_mend
