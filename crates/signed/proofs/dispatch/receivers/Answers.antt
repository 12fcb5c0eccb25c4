use Rattle.signed.proofs.Masks.{left_are}
use Rattle.signed.proofs.dispatch.receivers.Goals as goal

pub returns : goal.returns
returns c = left_are c.args.generals c.args.bits c.below.result c.bits.result c.without.result c.args.chain.now c.requires c.below.ensures c.bits.ensures.each c.without.ensures
