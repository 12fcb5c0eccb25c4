-- The relay has the signers of the chains held.
use Rattle.std.proofs.Common.{◌≡◌, ◌+◌, length, map, ap, ◌∙◌, arith}
use Rattle.std.proofs.lemmas.Result.{IfOk-weaker}
use Rattle.semantics.specs.Relay.{signed}
use Rattle.outbox.specs.Contents.{Contents}
use Rattle.signed.specs.Contexts.{signer_bits}
use Rattle.signed.specs.Sending.{relay_behind, HeldChains}
use Rattle.signed.proofs.Written.{relay_is}
use Rattle.signed.proofs.briefing.outbox.Goals as goal

pub returns-clause-relay : goal.returns-clause-relay
returns-clause-relay c =
    let a = c.args in
    let s = a.scenario.now in
    let round = length a.sent.now + 1 in
    let told : c.as_slice.result.now ≡ map signer_bits a.held.now.chains = c.as_slice.ensures.value ∙ c.in_ok-signers.ensures in
    IfOk-weaker c.signed.result
    (λ (o : Contents). o.relay ≡ signed c.shape.result c.as_slice.result.now)
    (λ (o : Contents). o.relay ≡ relay_behind s a.sent.now a.general)
    (λ o is. relay_is s a.sent.now a.general round o.relay c.requires.rows (omega arith)
    (is ∙ (λ i. signed (c.shape.ensures.same i) ((told ∙ ap (λ (h : HeldChains). map signer_bits h.chains) c.requires.held) i))))
    c.signed.ensures.relay
