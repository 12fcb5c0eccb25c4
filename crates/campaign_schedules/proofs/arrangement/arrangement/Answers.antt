-- The fault names the first access that cannot be made.
use Rattle.std.proofs.Common.{◌≡◌, ◌≤◌, Vec, ℕ, length, arith}
use Rattle.std.specs.Global.{Global}
use Rattle.std.specs.String.{string_bytes}
use Rattle.std.proofs.lemmas.List.{length-map}
use Rattle.world.specs.Playing.{lists_in}
use Rattle.campaign_schedules.proofs.Retracing.{read_of}
use Rattle.campaign_schedules.proofs.Stopping.{arrangement_by, stuck_there, unmade_by}
use Rattle.campaign_schedules.proofs.arrangement.arrangement.Goals as goal

pub never-requires : goal.never-requires
never-requires g c =
    stuck_there g.W.PlayableWorld.kind _ (lists_in c.args.rows.now) c.in-Never.round c.in-Never.place (rw c.in-Never.is at c.in_ok-schedule.ensures.made)

pub returns-in-Never-clause-unarranged : goal.returns-in-Never-clause-unarranged
returns-in-Never-clause-unarranged g c =
    unmade_by g.W.PlayableWorld.kind c.campaign-campaign.ensures.campaigns c.args.scenario.now (lists_in c.args.rows.now) c.in-Never.round c.in-Never.place c.never.result c.recall.ensures
    (rw c.in-Never.is at c.in_ok-schedule.ensures.made) c.never.ensures

pub returns-in_ok-schedule_text-in-By-clause-arranged : goal.returns-in_ok-schedule_text-in-By-clause-arranged
returns-in_ok-schedule_text-in-By-clause-arranged g c =
    let K = g.W.PlayableWorld.kind in
    let s = c.args.scenario.now in
    let rows = lists_in c.args.rows.now in
    let made = rw c.in-By.is at c.in_ok-schedule.ensures.made in
    let plan = rw c.in-By.is at c.in_ok-schedule.ensures.plan in
    let few : length rows ≤ 5 = (let long = length-map c.args.rows.now (λ (v : Vec ℕ Global). v.items) in let most = c.requires.few in omega arith) in
    arrangement_by K s rows c.in-By.schedule (string_bytes c.in_ok-schedule_text-in-By.field-0) made plan
    (read_of K c.campaign-campaign.ensures.campaigns s rows c.in-By.schedule c.recall.ensures c.recall_short.ensures few made) c.in_ok-schedule_text-in-By.ensures
