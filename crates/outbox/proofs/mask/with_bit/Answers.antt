use Rattle.outbox.proofs.Masking.{with_one}
use Rattle.outbox.proofs.mask.with_bit.Goals as goal

pub returns : goal.returns
returns c = with_one c.args.mask c.args.number c.requires
