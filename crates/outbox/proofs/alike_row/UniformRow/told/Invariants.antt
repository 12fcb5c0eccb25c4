use Rattle.std.proofs.Common.{◌≡◌, ◌≤◌, length, replicate}
use Rattle.outbox.proofs.alike_row.UniformRow.told.Given as goal

abbrev pub invariant-loop-number : goal.invariant-loop-number
invariant-loop-number l = record {
  all : l.told.items ≡ replicate l.number l.order;
  few : length l.told.items ≤ l.number;
}
