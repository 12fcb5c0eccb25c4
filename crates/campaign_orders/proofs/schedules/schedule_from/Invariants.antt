use Rattle.std.proofs.Common.{drop}
use Rattle.world.specs.Playing.{lists_in}
use Rattle.campaign_orders.proofs.Planned.{IsOnSchedule}
use Rattle.campaign_orders.proofs.schedules.schedule_from.Given as goal

abbrev pub invariant-loop-round : goal.invariant-loop-round
invariant-loop-round g l = IsOnSchedule g.W.PlayableWorld.kind (g.W.PlayableWorld.seen l.initial.world) (lists_in l.names) (g.W.PlayableWorld.seen l.world) (lists_in (drop l.round l.names)) l.round l.lines.items
