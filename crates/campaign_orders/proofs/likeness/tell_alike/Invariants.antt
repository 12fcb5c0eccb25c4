use Rattle.std.proofs.Common.{take}
use Rattle.campaign_orders.specs.Merging.{TellAlike}
use Rattle.campaign_orders.proofs.likeness.tell_alike.Given as goal

abbrev pub invariant-loop-place : goal.invariant-loop-place
invariant-loop-place l = TellAlike (take l.place l.letters) (take l.place l.others)
