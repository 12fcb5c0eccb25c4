use Rattle.std.proofs.Common.{◌≡◌}
use Rattle.std.specs.Prelude.{All}
use Rattle.threads.specs.Served.{told_in, IsGated, AreWitnessed}
use Rattle.threads.proofs.resident.GeneralThread.do_tasks.Given as goal

abbrev pub invariant-loop : goal.invariant-loop
invariant-loop g l = record {
  post : l.poster.table ≡ l.post.table;
  general : l.poster.general ≡ l.self.general;
  told : AreWitnessed (told_in l.poster.posted) l.me;
  gated : All (IsGated (g.G.Gate.passed l.self.gate.now)) l.poster.posted;
}
