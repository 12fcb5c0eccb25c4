use Rattle.std.proofs.Common.{◌≡◌, ◌≤◌, length, drop}
use Rattle.campaign_orders.specs.Succession.{least_above}
use Rattle.campaign_orders.proofs.succession.least_above.Given as goal

abbrev pub invariant-loop-place : goal.invariant-loop-place
invariant-loop-place l = record { least : l.least ≡ least_above l.general (drop l.place l.names); within : l.place ≤ length l.names }

abbrev pub decreases-loop-place : goal.decreases-loop-place
decreases-loop-place l = l.place
