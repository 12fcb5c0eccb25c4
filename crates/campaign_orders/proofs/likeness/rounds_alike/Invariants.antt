use Rattle.std.proofs.Common.{take}
use Rattle.campaign_orders.specs.Merging.{RoundsAlike}
use Rattle.campaign_orders.proofs.likeness.rounds_alike.Given as goal

abbrev pub invariant-loop-place : goal.invariant-loop-place
invariant-loop-place l = RoundsAlike (take l.place l.rounds) (take l.place l.others)
