use Rattle.std.proofs.Common.{drop}
use Rattle.campaign_orders.proofs.Planned.{IsOnLine}
use Rattle.campaign_orders.proofs.schedules.line_of.Given as goal

abbrev pub invariant-loop-place : goal.invariant-loop-place
invariant-loop-place g l = IsOnLine g.W.PlayableWorld.kind (g.W.PlayableWorld.seen l.initial.world) l.names (g.W.PlayableWorld.seen l.world) (drop l.place l.names) l.place l.repeats.items
