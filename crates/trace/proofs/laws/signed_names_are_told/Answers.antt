use Rattle.trace.proofs.SignedNaming.{proved_signed_names_are_told}
use Rattle.trace.proofs.laws.signed_names_are_told.Goals as goal

pub returns : goal.returns
returns c = proved_signed_names_are_told
