use Rattle.std.proofs.Common.{◌≡◌, ◌++◌}
use Rattle.std.specs.Prelude.{All}
use Rattle.threads.proofs.round_letters.take_letters.Given as goal

abbrev pub invariant-loop : goal.invariant-loop
invariant-loop g l = record {
  post : l.collector.table ≡ l.post.table;
  taken : l.collector.taken ≡ l.initial.collector.taken ++ l.letters.items;
  claims : All g.C.Claim.holds l.letters.items;
}
