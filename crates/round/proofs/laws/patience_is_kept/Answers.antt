use Rattle.round.proofs.Ends.{proved_patience_is_kept}
use Rattle.round.proofs.laws.patience_is_kept.Goals as goal

pub returns : goal.returns
returns c = proved_patience_is_kept
