use Rattle.std.proofs.lemmas.Result.{IfOk-weaker, IfErr-weaker}
use Rattle.surveys.specs.Shrinking.{IsPartOf, IsRefusedOf, IsWalked, LieWalks}
use Rattle.surveys.proofs.SmallerCampaigns.{part_on, refused_on}
use Rattle.std.proofs.Common.{◌≢◌}
use Rattle.scenario.specs.declared.fault.ScenarioError.TheVariants.{Memory}
use Rattle.surveys.proofs.minimal_campaign.walked.Goals as goal

pub returns-clause-part : goal.returns-clause-part
returns-clause-part c =
    IfOk-weaker c.fewest_lies.result (IsPartOf c.in_ok-fewer.fewer) (IsPartOf c.args.plot)
    (λ x h. part_on c.args.plot c.in_ok-fewer.fewer c.in_ok-fewer.ensures.part h) c.fewest_lies.ensures.part

pub returns-clause-refused : goal.returns-clause-refused
returns-clause-refused c =
    IfErr-weaker c.fewest_lies.result (λ e. e ≢ Memory → IsRefusedOf c.in_ok-fewer.fewer e) (λ e. e ≢ Memory → IsRefusedOf c.args.plot e)
    (λ e h other. refused_on c.args.plot c.in_ok-fewer.fewer e c.in_ok-fewer.ensures.part (h other)) c.fewest_lies.ensures.refused

pub returns-clause-walk : goal.returns-clause-walk
returns-clause-walk c =
    IfOk-weaker c.fewest_lies.result (λ left. LieWalks left 0 c.in_ok-fewer.fewer) (IsWalked c.args.plot)
    (λ left walk. record { fewer = c.in_ok-fewer.fewer; traitors = c.in_ok-fewer.ensures.walk; lies = walk }) c.fewest_lies.ensures.walk
