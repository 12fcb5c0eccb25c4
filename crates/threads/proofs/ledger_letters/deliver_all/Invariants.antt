use Rattle.std.proofs.Common.{◌≡◌, take}
use Rattle.threads.proofs.ledger_letters.deliver_all.Given as goal

abbrev pub invariant-loop-row : goal.invariant-loop-row
invariant-loop-row g l = record {
  told : g.D.Delivered.was_told l.scenario (take l.row-index l.rows) l.told;
  count : g.D.Delivered.count l.told ≡ l.row-index;
}
