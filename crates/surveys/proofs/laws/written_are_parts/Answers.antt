use Rattle.surveys.proofs.Written.{written_law}
use Rattle.surveys.proofs.laws.written_are_parts.Goals as goal

pub returns : goal.returns
returns c = written_law
