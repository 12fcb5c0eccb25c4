use Rattle.std.proofs.Common.{◌≡◌, map, take}
use Rattle.std.specs.Arc.{arc_value}
use Rattle.campaign_orders.proofs.likeness.same_shared.Given as goal

abbrev pub invariant-loop-place : goal.invariant-loop-place
invariant-loop-place l = map arc_value (take l.place l.parts) ≡ map arc_value (take l.place l.others)
