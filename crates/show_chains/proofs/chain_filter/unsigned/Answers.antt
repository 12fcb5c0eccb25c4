use Rattle.std.proofs.Common.{ap, arith, not}
use Rattle.label.specs.Labels.{on}
use Rattle.show_chains.proofs.StrokeLemmas.{kept_more}
use Rattle.show_chains.proofs.chain_filter.unsigned.Goals as goal

pub loop-chain-preserved : goal.loop-chain-preserved
loop-chain-preserved c =
    kept_more (λ ch. not (on ch.signers c.args.general)) _ c.args.chains.now c.loop-chain.kept.items c.push_if.new.kept.items c.loop-chain.chain-index c.chain-item.result (omega arith) c.chain-item.is
    (ap not c.has.ensures) c.loop-chain.invariant c.in_ok-push_if.ensures
