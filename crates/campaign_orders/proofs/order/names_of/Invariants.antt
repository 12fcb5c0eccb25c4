use Rattle.std.proofs.Common.{◌≡◌, map, take}
use Rattle.std.specs.Prelude.{filter, ◌==◌}
use Rattle.campaign_orders.proofs.order.names_of.Given as goal

abbrev pub invariant-loop-access : goal.invariant-loop-access
invariant-loop-access l = l.names.items ≡ map (λ a. a.general) (filter (λ a. a.round == l.round) (take l.access-index l.accesses))
