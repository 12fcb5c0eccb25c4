use Rattle.std.proofs.Common.{◌≡◌, ◌+◌, [], All, length}
use Rattle.shared_board.proofs.shared_board.SharedBoard.new.Given as goal

abbrev pub invariant-loop : goal.invariant-loop
invariant-loop g l = record {
  left : l.all.parts + l.counter ≡ l.threads;
  none : l.all.amount ≡ 0;
  count : length l.witnesses.items ≡ l.counter;
  fresh : All (λ w. (w.seen ≡ []) × (w.made ≡ 0)) l.witnesses.items;
}
