-- The schedule begins with the opening of the world.
use Rattle.std.proofs.Common.{subst}
use Rattle.std.specs.Prelude.{IfOk}
use Rattle.world.specs.Kind.{World, opening}
use Rattle.world.specs.Playing.{lists_in}
use Rattle.campaign_orders.specs.Planning.{IsScheduleOf, IsPlan, BringsBack}
use Rattle.campaign_orders.proofs.Planned.{if_ok_map, plan_of, brings_back}
use Rattle.campaign_schedules.proofs.plan.planned.Goals as goal

pub returns-clause-made : goal.returns-clause-made
returns-clause-made g c =
    let K = g.W.PlayableWorld.kind in
    let names = lists_in c.args.names.now in
    subst (λ (v : World). IfOk c.schedule_from.result (λ x. IsScheduleOf K v names x)) c.requires c.schedule_from.ensures

pub returns-clause-plan : goal.returns-clause-plan
returns-clause-plan g c =
    let K = g.W.PlayableWorld.kind in
    let s = c.args.scenario.now in
    let names = lists_in c.args.names.now in
    if_ok_map c.schedule_from.result (λ x. IsScheduleOf K (opening K s) names x) (λ x. IsPlan K s names x)
    (λ x h. plan_of K c.campaign-campaign.ensures.campaigns s names x c.recall.ensures h) (returns-clause-made g c)

pub returns-clause-again : goal.returns-clause-again
returns-clause-again g c =
    let K = g.W.PlayableWorld.kind in
    let s = c.args.scenario.now in
    let names = lists_in c.args.names.now in
    if_ok_map c.schedule_from.result (λ x. IsPlan K s names x) (λ x. BringsBack K s names x)
    (λ x h. brings_back K c.campaign-campaign.ensures.campaigns s names x c.recall.ensures h) (returns-clause-plan g c)
