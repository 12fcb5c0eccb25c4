use Rattle.std.proofs.Common.{ap, arith, cond, [], ◌∷◌, ◌++◌, ◌∙◌}
use Rattle.signed.proofs.Lending.{one_came}
use Rattle.show_chains.proofs.owed_chains.received.Goals as goal

pub loop-chain-preserved : goal.loop-chain-preserved
loop-chain-preserved c =
    let x = c.loop-chain-item.result in
    c.in_ok-push_if.ensures
    ∙ (ap (λ b. c.loop-chain.came.items ++ cond b (x.0 ∷ []) []) c.has.ensures
    ∙ one_came c.args.receiver [] c.loop-chain.came.items c.args.sending.now c.loop-chain.chain-index x (omega arith) (omega arith) c.loop-chain-item.is c.loop-chain.invariant)
