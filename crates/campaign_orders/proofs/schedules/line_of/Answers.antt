-- One more named general makes his access.
use Rattle.std.proofs.Common.{◌+◌, ◌<◌, subst, length, drop, get_or, List, ℕ, arith}
use Rattle.campaign_orders.proofs.Planned.{IsOnLine, names_at, line_goes_on, line_stops}
use Rattle.campaign_orders.proofs.schedules.line_of.Goals as goal

pub returns-in-None : goal.returns-in-None
returns-in-None g c =
    let K = g.W.PlayableWorld.kind in
    let start = g.W.PlayableWorld.seen c.args.world.now in
    let w = g.W.PlayableWorld.seen c.loop-place.world in
    let lt : c.loop-place.place < length c.args.names.now = omega arith in
    let here = subst (λ (l : List ℕ). IsOnLine K start c.args.names.now w l c.loop-place.place c.loop-place.repeats.items) (names_at c.args.names.now c.loop-place.place lt) c.loop-place.invariant in
    line_stops K start w (g.W.PlayableWorld.seen c.steps_to_access.new.world) c.args.names.now (drop (c.loop-place.place + 1) c.args.names.now) (get_or c.args.names.now c.loop-place.place 0) c.loop-place.place c.loop-place.repeats.items
    here (rw c.in-None.is at c.in_ok-times.ensures)

pub loop-place-preserved : goal.loop-place-preserved
loop-place-preserved g c =
    let K = g.W.PlayableWorld.kind in
    let start = g.W.PlayableWorld.seen c.args.world.now in
    let w = g.W.PlayableWorld.seen c.loop-place.world in
    let lt : c.loop-place.place < length c.args.names.now = omega arith in
    let here = subst (λ (l : List ℕ). IsOnLine K start c.args.names.now w l c.loop-place.place c.loop-place.repeats.items) (names_at c.args.names.now c.loop-place.place lt) c.loop-place.invariant in
    line_goes_on K start w (g.W.PlayableWorld.seen c.steps_to_access.new.world) c.args.names.now (drop (c.loop-place.place + 1) c.args.names.now) (get_or c.args.names.now c.loop-place.place 0) c.loop-place.place c.in-Some.times c.loop-place.repeats.items c.push.new.self.items
    here (rw c.in-Some.is at c.in_ok-times.ensures) c.in_ok-push-in-Some.ensures.items
