use Rattle.std.proofs.Common.{ap, arith, not}
use Rattle.show_chains.specs.Owed.{is_among}
use Rattle.show_chains.proofs.StrokeLemmas.{kept_more}
use Rattle.show_chains.proofs.chain_filter.apart.Goals as goal

pub loop-chain-preserved : goal.loop-chain-preserved
loop-chain-preserved c =
    kept_more (λ ch. not (is_among c.args.others.now ch)) _ c.args.chains.now c.loop-chain.kept.items c.push_if.new.kept.items c.loop-chain.chain-index c.chain-item.result (omega arith) c.chain-item.is
    (ap not c.is_among.ensures) c.loop-chain.invariant c.in_ok-push_if.ensures
