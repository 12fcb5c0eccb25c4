use Rattle.round.proofs.Loyal.{proved_contexts_tell}
use Rattle.round.proofs.laws.contexts_tell.Goals as goal

pub returns : goal.returns
returns c = proved_contexts_tell
