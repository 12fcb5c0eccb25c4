use Rattle.signed.proofs.Passing.{proved_loyal_entries_are_sent}
use Rattle.signed.proofs.laws.loyal_entries_are_sent.Goals as goal

pub returns : goal.returns
returns c = proved_loyal_entries_are_sent
