use Rattle.std.proofs.Common.{◌≡◌, ◌≤◌, length, map, take, get_or, None}
use Rattle.outbox.proofs.row.told.Given as goal

abbrev pub invariant-loop-receiver : goal.invariant-loop-receiver
invariant-loop-receiver l = record {
  told : l.told.items ≡ map (λ n. get_or l.kept n None) (take l.receiver-index l.receivers);
  few : length l.told.items ≤ l.receiver-index;
}
