use Rattle.std.proofs.Common.{◌≡◌, take}
use Rattle.campaign_orders.proofs.likeness.same_parts.Given as goal

abbrev pub invariant-loop-place : goal.invariant-loop-place
invariant-loop-place l = take l.place l.parts ≡ take l.place l.others
