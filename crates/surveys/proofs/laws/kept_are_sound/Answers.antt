use Rattle.surveys.proofs.Keeping.{kept_law}
use Rattle.surveys.proofs.laws.kept_are_sound.Goals as goal

pub returns : goal.returns
returns c = kept_law
