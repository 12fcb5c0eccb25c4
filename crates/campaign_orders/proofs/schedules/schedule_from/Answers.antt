-- One more line is made.
use Rattle.std.proofs.Common.{◌+◌, ◌<◌, subst, length, drop, List, ℕ, arith}
use Rattle.world.specs.Playing.{lists_in}
use Rattle.campaign_orders.specs.Planning.{IsLineOf}
use Rattle.campaign_orders.specs.Walks.{IsStuckAt}
use Rattle.campaign_orders.proofs.Planned.{IsOnSchedule, lists_at, schedule_goes_on, schedule_stops}
use Rattle.campaign_orders.proofs.schedules.schedule_from.Goals as goal

pub returns-in-Stuck : goal.returns-in-Stuck
returns-in-Stuck g c =
    let K = g.W.PlayableWorld.kind in
    let start = g.W.PlayableWorld.seen c.args.world in
    let w = g.W.PlayableWorld.seen c.loop-round.world in
    let lt : c.loop-round.round < length c.args.names.now = omega arith in
    let at = lists_at c.args.names.now c.loop-round.round c.index-names-round.result lt c.index-names-round.is in
    let here = subst (λ (l : List (List ℕ)). IsOnSchedule K start (lists_in c.args.names.now) w l c.loop-round.round c.loop-round.lines.items) at c.loop-round.invariant in
    let stuck = subst (λ (l : List ℕ). IsStuckAt K w l c.in-Stuck.place) c.as_slice.ensures.value (rw c.in-Stuck.is at c.in_ok-entries.ensures) in
    schedule_stops K start w (lists_in c.args.names.now) (lists_in (drop (c.loop-round.round + 1) c.args.names.now)) c.index-names-round.result.items c.loop-round.round c.in-Stuck.place c.loop-round.lines.items here stuck

pub loop-round-preserved : goal.loop-round-preserved
loop-round-preserved g c =
    let K = g.W.PlayableWorld.kind in
    let start = g.W.PlayableWorld.seen c.args.world in
    let w = g.W.PlayableWorld.seen c.loop-round.world in
    let v = g.W.PlayableWorld.seen c.line_of.new.world in
    let lt : c.loop-round.round < length c.args.names.now = omega arith in
    let at = lists_at c.args.names.now c.loop-round.round c.index-names-round.result lt c.index-names-round.is in
    let here = subst (λ (l : List (List ℕ)). IsOnSchedule K start (lists_in c.args.names.now) w l c.loop-round.round c.loop-round.lines.items) at c.loop-round.invariant in
    let line = subst (λ (l : List ℕ). IsLineOf K w l v c.in_ok-entries.field-0) c.as_slice.ensures.value c.in_ok-entries.ensures in
    schedule_goes_on K start w v (g.W.PlayableWorld.seen c.in_ok-next-in-Made.next) (lists_in c.args.names.now) (lists_in (drop (c.loop-round.round + 1) c.args.names.now)) c.index-names-round.result.items c.loop-round.round c.in-Made.entries c.loop-round.lines.items c.push.new.self.items
    here (rw c.in-Made.is at line) c.in_ok-next-in-Made.ensures c.in_ok-push-in-Made.ensures.items
