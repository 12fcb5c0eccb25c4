use Rattle.std.proofs.Common.{◌≡◌, ◌∙◌, ◌+◌, ℕ, suc, ap, arith}
use Rattle.std.proofs.lemmas.Result.{IfOk-weaker}
use Rattle.round.specs.Scenario.{Scenario}
use Rattle.signed.specs.Explained.{bringing}
use Rattle.signed.specs.Sent.{delivered, sent_in}
use Rattle.signed.proofs.accepted_chains.bringing.Goals as goal

pub returns : goal.returns
returns c =
    let value = c.bound.ensures.same in
    let from = c.from-rounds.ensures in
    let here = ap (λ (s : Scenario). s.bound) c.scenario.ensures in
    let S = delivered (sent_in c.args.chronicle.now.scenario c.args.chronicle.now.letters) in
    let n = c.args.chronicle.now.scenario.generals in
    let all : c.from-rounds.result + 1 ≡ suc c.args.chronicle.now.scenario.bound = omega arith in
    IfOk-weaker c.bringing_in.result _ _
    (λ x e. e ∙ ap (λ (r : ℕ). bringing n S r c.args.general) all)
    c.bringing_in.ensures
