use Rattle.std.proofs.Common.{◌≡◌, take}
use Rattle.outbox.specs.Rows.{filled, row_of, IsRow}
use Rattle.outbox.proofs.row.fill.Given as goal

abbrev pub invariant-loop-place : goal.invariant-loop-place
invariant-loop-place l = record {
  kept : IsRow l.kept l.receivers;
  done : row_of l.kept l.receivers ≡ filled (take l.place l.orders) (row_of l.fn.kept l.receivers);
}
