use Rattle.signed.proofs.Whatever.{proved_whatever}
use Rattle.signed.proofs.laws.whatever_traitors_write.Goals as goal

pub returns : goal.returns
returns c = proved_whatever
