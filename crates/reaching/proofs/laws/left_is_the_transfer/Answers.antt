use Rattle.reaching.proofs.LeftLaws.{left_law}
use Rattle.reaching.proofs.laws.left_is_the_transfer.Goals as goal

pub returns : goal.returns
returns c = left_law
