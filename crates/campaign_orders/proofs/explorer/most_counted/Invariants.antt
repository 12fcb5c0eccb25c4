use Rattle.std.proofs.Common.{◌≡◌, take}
use Rattle.campaign_orders.specs.Exploring.{counted_in}
use Rattle.campaign_orders.specs.Layers.{kept}
use Rattle.campaign_orders.proofs.explorer.most_counted.Given as goal

abbrev pub invariant-loop-finding : goal.invariant-loop-finding
invariant-loop-finding l = l.count ≡ kept (counted_in (take l.finding-index l.findings))
