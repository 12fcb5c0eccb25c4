-- The schedule is read again, and the accesses of a run can all be made.
use Rattle.std.proofs.Common.{◌≡◌, ◌≤◌, ◌+◌, ◌∙◌, length, ap, arith}
use Rattle.world.specs.Playing.{lists_in}
use Rattle.campaign_schedules.proofs.Retracing.{few, names_count, read_of}
use Rattle.campaign_schedules.proofs.schedules.repetition.Goals as goal

pub order_in-requires : goal.order_in-requires
order_in-requires g c = few g.W.PlayableWorld.kind c.campaign-campaign.ensures.campaigns c.args.scenario.now c.args.accesses.now c.recall.ensures c.requires.ledger

pub returns-clause-read : goal.returns-clause-read
returns-clause-read g c =
    let s = c.args.scenario.now in
    let given : lists_in c.as_slice.result.now ≡ lists_in c.in_ok-order.order.items = ap lists_in c.as_slice.ensures.value in
    let made = rw c.in-By.is at c.in_ok-schedule.ensures.made in
    let count : length (lists_in c.as_slice.result.now) ≡ c.bound.result + 1 = ap length (given ∙ c.in_ok-order.ensures) ∙ names_count 1 c.args.accesses.now (c.bound.result + 1) in
    let bound = c.bound.ensures.same in
    let rounds = c.recall.ensures.rounds in
    let short : length (lists_in c.as_slice.result.now) ≤ 5 = omega arith in
    read_of g.W.PlayableWorld.kind c.campaign-campaign.ensures.campaigns s (lists_in c.as_slice.result.now) c.in-By.schedule c.recall.ensures c.recall_short.ensures short made
