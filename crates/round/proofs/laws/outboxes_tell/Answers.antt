use Rattle.round.proofs.Senders.{proved_outboxes_tell}
use Rattle.round.proofs.laws.outboxes_tell.Goals as goal

pub returns : goal.returns
returns c = proved_outboxes_tell
