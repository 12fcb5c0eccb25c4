use Rattle.std.proofs.Common.{◌∙◌, ap, refl}
use Rattle.std.specs.Prelude.{filter}
use Rattle.std.specs.List.{range_with_len}
use Rattle.round.specs.Scenario.{Scenario, is_traitor}
use Rattle.surveys.specs.Judging.{traitors_in}
use Rattle.surveys.proofs.AccountFacts.{is_account}
use Rattle.surveys.proofs.accounting.account_of.Goals as goal

pub returns-clause-account : goal.returns-clause-account
returns-clause-account c =
    let own = c.scenario_in-scenario.ensures in
    is_account c.args.text.now c.args.seed c.in_ok-campaign.campaign _ c.in_ok-campaign.ensures refl
    (c.generals-generals.ensures.same ∙ ap (λ (s : Scenario). s.generals) own)
    (c.bound-bound.ensures.same ∙ ap (λ (s : Scenario). s.bound) own)
    (c.traitors_in-count.ensures ∙ ap traitors_in own) c.in_ok-verdict.ensures.verdict c.in_ok-verdict.ensures.well
    (c.order-order.ensures ∙ ap (λ (s : Scenario). s.order) own)
    (c.in_ok-traitors.ensures ∙ ap (λ (s : Scenario). filter (is_traitor s) (range_with_len 0 s.generals)) own) c.in_ok-verdict.ensures.decisions
