use Rattle.std.proofs.Common.{◌∙◌, ap, arith}
use Rattle.signed.specs.Sending.{added_also}
use Rattle.show_chains.proofs.StrokeLemmas.{order_more, orders_all}
use Rattle.show_chains.proofs.strokes.orders_of.Goals as goal

pub loop-chain-preserved : goal.loop-chain-preserved
loop-chain-preserved c =
    order_more c.args.chains.now c.loop-chain.chain-index c.chain-item.result c.loop-chain.found.items c.add_order.new.found.items _ (omega arith) c.chain-item.is
    (c.in_ok-add_order.ensures ∙ ap (added_also c.loop-chain.found.items) c.order.ensures) c.loop-chain.invariant

pub returns : goal.returns
returns c = orders_all c.args.chains.now c.loop-chain.chain-index c.loop-chain.found.items _ (omega arith) c.loop-chain.invariant
