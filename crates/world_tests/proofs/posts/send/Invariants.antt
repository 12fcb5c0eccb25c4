use Rattle.std.proofs.Common.{◌≡◌}
use Rattle.world_tests.proofs.posts.send.Given as goal

abbrev pub invariant-loop : goal.invariant-loop
invariant-loop g l = record {
  post : l.poster.table ≡ l.post.table;
  same : l.poster.table ≡ l.fn.poster.table;
  general : l.poster.general ≡ l.fn.poster.general;
  own : l.letter.general ≡ l.poster.general;
}
