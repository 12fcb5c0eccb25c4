use Rattle.std.proofs.Common.{◌≡◌, ◌≤◌, ℕ, length, get_or}
use Rattle.outbox.specs.Rows.{RowOrders, put_first, found_first, Tells}
use Rattle.outbox.proofs.rows.put_in_each.Given as goal

abbrev pub invariant-loop-rank : goal.invariant-loop-rank
invariant-loop-rank g l = record {
  long : length l.labels ≡ length l.fn.labels;
  rows : (f : ℕ → ℕ) → Tells (goal.F-post g l.order) f → l.labels ≡ put_first l.receiver f 0 l.rank l.fn.labels;
  rest : (k : ℕ) (d : RowOrders) → l.rank ≤ k → get_or l.labels k d ≡ get_or l.fn.labels k d;
  set : l.set ≡ found_first l.receiver l.rank l.fn.labels;
}
