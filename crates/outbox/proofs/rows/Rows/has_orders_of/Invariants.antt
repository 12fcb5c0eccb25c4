use Rattle.std.proofs.Common.{◌≡◌, ◌<◌, ℕ, get_or, [], map}
use Rattle.outbox.specs.Rows.{orders_in}
use Rattle.outbox.proofs.rows.Rows.has_orders_of.Given as goal

abbrev pub invariant-loop-rank : goal.invariant-loop-rank
invariant-loop-rank l = (k : ℕ) → k < l.rank → get_or (map orders_in l.self) k [] ≡ get_or (map orders_in l.others) k []
