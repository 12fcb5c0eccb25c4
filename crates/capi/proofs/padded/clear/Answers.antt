-- Zeros are written between the two indices.
use Rattle.std.proofs.Common.{rules}
use Rattle.std.proofs.lemmas.Slice.{overwrites}
use Rattle.capi.proofs.padded.clear.Goals as goal

pub returns : goal.returns
returns c = search (rules, overwrites)
