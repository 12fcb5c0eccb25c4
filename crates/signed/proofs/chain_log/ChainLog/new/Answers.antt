-- In a new log nothing was sent.
use Rattle.std.proofs.Common.{◌∙◌, refl}
use Rattle.signed.specs.Sending.{signatures}
use Rattle.signed.proofs.Logs.{log_begun}
use Rattle.signed.proofs.chain_log.ChainLog.new.Goals as goal

pub returns : goal.returns
returns c =
    log_begun c.args.scenario.now (record { rounds = 0; sent = c.new.result.items; signers = c.in_ok-signers.signers.items }) refl c.new.ensures.items
    (c.in_ok-signers.ensures ∙ (λ i. signatures (c.generals.ensures.same i) (c.commander.ensures.same i)))
