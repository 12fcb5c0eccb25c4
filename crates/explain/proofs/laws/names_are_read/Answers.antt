use Rattle.explain.proofs.NameLaws.{names_read}
use Rattle.explain.proofs.laws.names_are_read.Goals as goal

pub returns : goal.returns
returns c = names_read
