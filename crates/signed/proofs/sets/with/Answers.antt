use Rattle.signed.proofs.Masks.{one_more}
use Rattle.signed.proofs.sets.with.Goals as goal

pub returns : goal.returns
returns c = one_more c.args.bits c.args.general c.requires
