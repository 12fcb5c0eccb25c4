use Rattle.trace.proofs.ChainLemmas.{chains_more}
use Rattle.trace.proofs.RoundLemmas.{then_lines}
use Rattle.trace.proofs.chains.put_chains.Goals as goal

pub loop-chain-preserved : goal.loop-chain-preserved
loop-chain-preserved g c =
    then_lines _ _ _ (chains_more c.args.chains.now c.loop-chain.chain-index c.loop-chain-item.result c.loop-chain-test.true c.loop-chain-item.is) c.loop-chain.invariant c.put_chain.ensures
