use Rattle.std.proofs.Common.{◌≡◌, length}
use Rattle.std.specs.Prelude.{All}
use Rattle.threads.proofs.conductor.conduct.Given as goal

abbrev pub invariant-loop-round : goal.invariant-loop-round
invariant-loop-round g l = record {
  told : g.D.Delivered.was_told l.scenario l.rows.items l.told;
  count : g.D.Delivered.count l.told ≡ l._round;
  long : length l.rows.items ≡ l._round;
  post : l.collector.table ≡ l.camp.post.table;
  claims : All (λ letters. All g.C.Claim.holds letters) l.rows.items;
}
