use Rattle.trace.proofs.WrittenLemmas.{then_wrote, wrote-same}
use Rattle.trace.proofs.ChainLemmas.{chain_parts}
use Rattle.trace.proofs.chains.put_chain.Goals as goal

pub returns : goal.returns
returns g c =
    wrote-same _ _ (chain_parts c.args.chain.now c.args.receivers c.order.result c.signers.result.now c.order.ensures c.signers.ensures.value)
    (then_wrote (then_wrote (then_wrote (then_wrote c.put_headed.ensures c.put_dotted.ensures) c.put_all.ensures) c.put_receivers.ensures) c.put_all-2.ensures)
