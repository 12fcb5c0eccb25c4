use Rattle.std.proofs.Common.{[], ◌∷◌, ◌++◌, ◌∙◌, ap, arith}
use Rattle.signed.specs.Chains.{Chain}
use Rattle.show_chains.proofs.OwedLemmas.{one_more}
use Rattle.show_chains.proofs.unaccepted.copies.Goals as goal

pub loop-chain-preserved : goal.loop-chain-preserved
loop-chain-preserved c =
    one_more c.args.chains.now c.loop-chain.copies.items c.push.new.self.items c.loop-chain.chain-index c.chain-item.result (omega arith) c.chain-item.is c.loop-chain.invariant
    (c.in_ok-push.ensures.items ∙ ap (λ (s : Chain). c.loop-chain.copies.items ++ s ∷ []) c.in_ok-of.ensures)
