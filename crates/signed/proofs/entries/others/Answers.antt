-- The bits are set for exactly the other generals.
use Rattle.signed.proofs.Masks.{but_are}
use Rattle.signed.proofs.entries.others.Goals as goal

pub returns : goal.returns
returns c = but_are c.args.generals c.below.result c.of.result c.without.result c.args.but.now c.below.ensures c.of.ensures.bits c.without.ensures
