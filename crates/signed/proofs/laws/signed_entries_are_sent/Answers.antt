use Rattle.signed.proofs.Entered.{proved_entries_are_sent}
use Rattle.signed.proofs.laws.signed_entries_are_sent.Goals as goal

pub returns : goal.returns
returns c = proved_entries_are_sent
