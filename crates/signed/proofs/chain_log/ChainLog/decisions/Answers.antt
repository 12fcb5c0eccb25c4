-- The decisions follow from the chains that the letters have sent.
use Rattle.std.proofs.Common.{◌∙◌, length, ap, arith}
use Rattle.signed.specs.Logs.{LogSeen}
use Rattle.signed.proofs.Along.{sent_length}
use Rattle.signed.proofs.chain_log.ChainLog.decisions.Goals as goal

pub decisions_of-requires-clause-sent : goal.decisions_of-requires-clause-sent
decisions_of-requires-clause-sent c = (c.requires.told.0, c.as_slice.ensures.value ∙ (ap (λ (l : LogSeen). l.sent) c.self.view_is ∙ c.requires.told.1.chains))

pub decisions_of-requires-clause-few : goal.decisions_of-requires-clause-few
decisions_of-requires-clause-few c =
    let told = c.requires.told in
    let rounds = told.1.rounds in
    let long = ap length (c.as_slice.ensures.value ∙ (ap (λ (l : LogSeen). l.sent) c.self.view_is ∙ told.1.chains)) ∙ sent_length c.args.scenario.now told.0 in
    let few = c.requires.few in
    omega arith

pub returns : goal.returns
returns c before is = c.decisions_of.ensures before (c.as_slice.ensures.value ∙ (ap (λ (l : LogSeen). l.sent) c.self.view_is ∙ is.chains))
