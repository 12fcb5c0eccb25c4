use Rattle.std.proofs.Common.{◌≡◌, ◌<◌, ◌∙◌, ap, map, arith, sym}
use Rattle.std.proofs.lemmas.Result.{IfOk-weaker}
use Rattle.round.specs.Scenario.{Scenario}
use Rattle.signed.specs.Accepted.{added}
use Rattle.signed.specs.Chains.{signed_also}
use Rattle.signed.specs.Sent.{delivered, sent_in}
use Rattle.show_chains.proofs.OwedLemmas.{later_some}
use Rattle.show_chains.proofs.owed_chains.later.Goals as goal

pub returns : goal.returns
returns c =
    let a = c.args in
    let s = a.chronicle.now.scenario in
    let same : c.commander.result ≡ s.commander = c.commander.ensures.same ∙ ap (λ (t : Scenario). t.commander) c.scenario-scenario.ensures in
    let bound : c.bound.result ≡ s.bound = c.bound.ensures.same ∙ ap (λ (t : Scenario). t.bound) c.scenario-scenario.ensures in
    let soon : a.rounds < s.bound = omega (arith, c.from.ensures) in
    let xs = map (λ ch. signed_also ch a.general) (added s.generals (delivered (sent_in s a.chronicle.now.letters)) a.rounds a.general) in
    IfOk-weaker c.prolonged.result _ _ (λ v e. e ∙ later_some a.general s.commander a.rounds s.bound xs (λ h. c.if-general-commander.false (h ∙ sym same)) soon) c.prolonged.ensures
