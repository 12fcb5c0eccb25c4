use Rattle.outbox.proofs.Masking.{without_one}
use Rattle.outbox.proofs.mask.without_bit.Goals as goal

pub returns : goal.returns
returns c = without_one c.args.mask c.args.number c.requires
