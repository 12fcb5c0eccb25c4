use Rattle.std.proofs.Common.{◌≡◌}
use Rattle.world_tests.proofs.posts.receive.Given as goal

abbrev pub invariant-loop : goal.invariant-loop
invariant-loop g l = l.collector.table ≡ l.post.table
