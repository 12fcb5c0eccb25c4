use Rattle.std.proofs.Common.{◌≡◌, ◌-◌, ◌∙◌, suc, arith}
use Rattle.std.proofs.lemmas.Result.{IfOk-weaker}
use Rattle.signed.specs.Sent.{delivered, sent_in}
use Rattle.show_chains.proofs.OwedLemmas.{owed_first, owed_later}
use Rattle.show_chains.proofs.owed_chains.owed.Goals as goal

pub returns-then-round-eq1 : goal.returns-then-round-eq1
returns-then-round-eq1 c =
    let s = c.args.chronicle.now.scenario in
    let S = delivered (sent_in s c.args.chronicle.now.letters) in
    let first : c.args.round ≡ 1 = omega arith in
    IfOk-weaker c.begun.result _ _ (λ v e. e ∙ owed_first s.generals s.commander s.bound s.order S c.args.round c.args.general first) c.begun.ensures

pub returns : goal.returns
returns c =
    let s = c.args.chronicle.now.scenario in
    let S = delivered (sent_in s c.args.chronicle.now.letters) in
    let behind : c.args.round ≡ suc (suc (c.args.round - 2)) = omega arith in
    IfOk-weaker c.later.result _ _ (λ v e. e ∙ owed_later s.generals s.commander s.bound s.order S c.args.round c.args.general (c.args.round - 2) behind) c.later.ensures
