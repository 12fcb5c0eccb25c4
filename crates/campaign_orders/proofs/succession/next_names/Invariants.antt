use Rattle.std.proofs.Common.{◌≡◌, ◌≤◌, length, drop, None}
use Rattle.campaign_orders.specs.Succession.{next_names}
use Rattle.campaign_orders.proofs.succession.next_names.Given as goal

abbrev pub invariant-loop-place : goal.invariant-loop-place
invariant-loop-place l = record { none : next_names (drop l.place l.names.items) ≡ None; within : l.place ≤ length l.names.items; same : l.names.items ≡ l.fn.names.items }

abbrev pub decreases-loop-place : goal.decreases-loop-place
decreases-loop-place l = l.place
