-- The schedule begins with the opening of the world.
use Rattle.std.proofs.Common.{subst}
use Rattle.std.specs.Prelude.{IfOk}
use Rattle.world.specs.Kind.{World, opening}
use Rattle.world.specs.Playing.{lists_in}
use Rattle.world.specs.World.{oral_kind}
use Rattle.world.proofs.Campaigns.{oral_campaigns}
use Rattle.campaign_orders.specs.Planning.{IsScheduleOf, IsPlan, BringsBack}
use Rattle.campaign_orders.proofs.Planned.{if_ok_map, plan_of, brings_back}
use Rattle.campaign_orders.proofs.schedules.schedule_names.Goals as goal

pub returns-clause-plan : goal.returns-clause-plan
returns-clause-plan c =
    let names = lists_in c.args.names.now in
    let made = subst (λ (v : World). IfOk c.schedule_from.result (λ x. IsScheduleOf oral_kind v names x)) c.in_ok-world.ensures c.schedule_from.ensures in
    if_ok_map c.schedule_from.result (λ x. IsScheduleOf oral_kind (opening oral_kind c.args.scenario) names x) (λ x. IsPlan oral_kind c.args.scenario names x)
    (λ x h. plan_of oral_kind oral_campaigns c.args.scenario names x c.recall.ensures h) made

pub returns-clause-again : goal.returns-clause-again
returns-clause-again c =
    let s = c.args.scenario in
    let names = lists_in c.args.names.now in
    let made = subst (λ (v : World). IfOk c.schedule_from.result (λ x. IsScheduleOf oral_kind v names x)) c.in_ok-world.ensures c.schedule_from.ensures in
    if_ok_map c.schedule_from.result (λ x. IsScheduleOf oral_kind (opening oral_kind s) names x) (λ x. BringsBack oral_kind s names x)
    (λ x h. brings_back oral_kind oral_campaigns s names x c.recall.ensures (plan_of oral_kind oral_campaigns s names x c.recall.ensures h)) made
