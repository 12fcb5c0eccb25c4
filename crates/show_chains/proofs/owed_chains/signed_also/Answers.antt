use Rattle.std.proofs.Common.{[], ◌∷◌, ◌++◌, ◌∙◌, ap, arith}
use Rattle.signed.specs.Chains.{Chain}
use Rattle.show_chains.proofs.OwedLemmas.{also_more}
use Rattle.show_chains.proofs.owed_chains.signed_also.Goals as goal

pub loop-chain-preserved : goal.loop-chain-preserved
loop-chain-preserved c =
    also_more c.args.general c.args.chains.now c.loop-chain.signed.items c.push.new.self.items c.loop-chain.chain-index c.chain-item.result (omega arith) c.chain-item.is c.loop-chain.invariant
    (c.in_ok-push.ensures.items ∙ ap (λ (s : Chain). c.loop-chain.signed.items ++ s ∷ []) c.in_ok-also.ensures)
