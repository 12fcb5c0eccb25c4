-- Turns up to the next request are taken, and then one more tick.
use Rattle.campaign_orders.proofs.Stepping.{step_taken, step_still}
use Rattle.campaign_orders.proofs.schedules.steps_to_access.Goals as goal

pub returns-then-is_still : goal.returns-then-is_still
returns-then-is_still g c =
    step_still (g.W.PlayableWorld.seen c.args.world.now) (g.W.PlayableWorld.seen c.run_on-ahead.new.self) c.open_parts-2.result.now c.args.general c.from.result c.from-3.result c.from-2.result c.run_on-ahead.result
    c.from.ensures c.from-3.ensures c.open_parts-2.ensures c.run_on-ahead.ensures.far (c.is_still.ensures.0 c.if-is_still.true)

pub returns : goal.returns
returns g c =
    step_taken g.W.PlayableWorld.kind c.campaign.ensures.campaigns (g.W.PlayableWorld.seen c.args.world.now) (g.W.PlayableWorld.seen c.run_on-ahead.new.self) (g.W.PlayableWorld.seen c.tick.new.self) c.campaign.result.now c.open_parts.result.now c.open_parts-2.result.now
    c.args.general c.from.result c.from-3.result c.from-4.result c.in-Some.most c.from-2.result c.run_on-ahead.result
    c.from.ensures c.from-3.ensures c.from-4.ensures c.from-2.ensures c.campaign.ensures.value c.recall.ensures c.campaign.ensures.reached c.open_parts.ensures c.open_parts-2.ensures c.in-Some.ensures.same
    c.run_on-ahead.ensures.far c.run_on-ahead.ensures.same (λ h. (let e = c.is_still.ensures.1 h in let f = c.if-is_still.false in cc)) c.in_ok-tick.ensures.done
