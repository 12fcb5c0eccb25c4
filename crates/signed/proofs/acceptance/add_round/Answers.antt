use Rattle.std.proofs.Common.{List, ℕ, take, sym, ap, ◌∙◌, arith}
use Rattle.signed.specs.Sending.{added_by, received_in}
use Rattle.signed.proofs.Adding.{one_sent}
use Rattle.signed.proofs.acceptance.add_round.Goals as goal

pub loop-sending-preserved : goal.loop-sending-preserved
loop-sending-preserved c = λ seen first.
    c.add_sending.ensures (added_by c.args.number c.args.general seen (received_in c.args.general (take c.loop-sending.sending-index c.sendings-sending-items.result.now))) (c.loop-sending.invariant seen first)
    ∙ ap (λ (orders : List ℕ). take 8 orders) (sym (one_sent c.args.number c.args.general seen c.sendings-sending-items.result.now c.loop-sending.sending-index c.sending-item.result (omega arith) c.sending-item.is))
