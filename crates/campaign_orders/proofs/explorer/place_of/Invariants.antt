use Rattle.campaign_orders.specs.Places.{AreElsewhere}
use Rattle.campaign_orders.proofs.explorer.place_of.Given as goal

abbrev pub invariant-loop-place : goal.invariant-loop-place
invariant-loop-place l = AreElsewhere l.place l.findings l.decisions
