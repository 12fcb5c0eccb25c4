-- The log gets the chains of one more round.
use Rattle.std.proofs.Common.{◌+◌, ◌∙◌, ◌++◌, ◌∷◌, [], sym, ap, subst}
use Rattle.signed.specs.Logs.{LogSeen}
use Rattle.signed.specs.Sending.{AreRows}
use Rattle.signed.specs.Sent.{Sent, round_sent}
use Rattle.signed.proofs.Behind.{rows_in}
use Rattle.signed.proofs.Logs.{log_more}
use Rattle.signed.proofs.chain_log.ChainLog.add.Goals as goal

pub round_sendings-requires-clause-rows : goal.round_sendings-requires-clause-rows
round_sendings-requires-clause-rows c =
    let s = c.args.scenario.now in
    let told = c.requires.told in
    subst (λ (x : Sent). AreRows s.generals x) (sym (c.as_slice.ensures.value ∙ (ap (λ (l : LogSeen). l.sent) c.self.view_is ∙ told.1.chains))) (rows_in s told.0)

pub round_sendings-requires-clause-signers : goal.round_sendings-requires-clause-signers
round_sendings-requires-clause-signers c = c.as_slice-2.ensures.value ∙ (ap (λ (l : LogSeen). l.signers) c.self.view_is ∙ c.requires.told.1.signing)

pub returns-clause-told : goal.returns-clause-told
returns-clause-told c before is =
    let s = c.args.scenario.now in
    let letters = c.args.letters.now in
    let sendings = c.in_ok-sendings.sendings in
    let new : LogSeen = record { rounds = c.self.inside.rounds + 1; sent = c.push.new.self.items; signers = c.self.inside.signers.items } in
    log_more s before letters c.args.self.now new sendings is (ap (λ (l : LogSeen). l.rounds + 1) c.self.view_is)
    (c.in_ok-push.ensures.items ∙ ap (λ (l : LogSeen). l.sent ++ sendings ∷ []) c.self.view_is)
    (c.in_ok-sendings.ensures ∙ ap (λ (x : Sent). round_sent s x letters) (c.as_slice.ensures.value ∙ ap (λ (l : LogSeen). l.sent) c.self.view_is))
    (ap (λ (l : LogSeen). l.signers) c.self.view_is) c.recall_few.ensures
