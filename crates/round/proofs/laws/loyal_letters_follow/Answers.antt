use Rattle.round.proofs.Loyal.{proved_loyal_letters_follow}
use Rattle.round.proofs.laws.loyal_letters_follow.Goals as goal

pub returns : goal.returns
returns c = proved_loyal_letters_follow
