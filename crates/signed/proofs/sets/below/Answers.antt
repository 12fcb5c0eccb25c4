use Rattle.std.proofs.Common.{arith}
use Rattle.std.proofs.lemmas.Nat.{one_shl}
use Rattle.signed.proofs.Masks.{first_ones}
use Rattle.signed.proofs.sets.below.Goals as goal

pub returns : goal.returns
returns c = λ g. rw (one_shl c.args.generals 16 (omega arith)) (first_ones c.args.generals g)
